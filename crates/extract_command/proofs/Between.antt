-- The disks between the steps of an assembly: what stands after all was given back, where OUT was written and where the
-- extraction ended before.
use Rattle.std.proofs.Common.{◌≡◌, ◌∙◌, ℕ, List, [], All, IsTrue, Option, Some, None, IfSome, Err, map, refl, sym, ap, subst, arith}
use Rattle.std.proofs.lemmas.List.Elements.{All-nil}
use Rattle.cache_store.specs.Shelves.{Shelf}
use Rattle.caibx_codec.specs.Asks.{IsListedGet}
use Rattle.caibx_codec.specs.Listing.{Listing}
use Rattle.chunk_sources.proofs.Cached.{stocked_none}
use Rattle.chunk_sources.specs.Caches.{Stocked, TakesListed, cached_in, seen}
use Rattle.chunk_sources.specs.declared.kit.Kit.{Kit}
use Rattle.chunk_store.specs.Folders.{chunks}
use Rattle.command_outcome.specs.declared.outcome.Outcome.TheVariants as ends
use Rattle.command_groups.proofs.Words.{group_words}
use Rattle.command_groups.specs.Asking.{with_retries}
use Rattle.command_groups.specs.Groups.{stores_of}
use Rattle.command_steps.proofs.Cached.{given_reads}
use Rattle.command_steps.proofs.Consulted.{reads_twice}
use Rattle.command_steps.proofs.Dialed.{dials_twice}
use Rattle.command_steps.proofs.Asking.{none_dialed}
use Rattle.command_steps.specs.Asking.{AsksFew, SendsFronts}
use Rattle.command_steps.specs.Cache.{folders_with, with_cache}
use Rattle.command_steps.specs.Sources.{Consults, DialsStores, Storage, storage}
use Rattle.command_steps.specs.Stores.{are_folders}
use Rattle.command_steps.specs.declared.any_store.AnyStore.{AnyStore}
use Rattle.command_words.specs.declared.command.Location.{Location}
use Rattle.command_worlds.specs.Worlds.{FileRose, Reads, Writes}
use Rattle.dsy_base.specs.Disk.{Disk, OnFile}
use Rattle.dsy_base.specs.Links.{DialState}
use Rattle.dsy_base.specs.Maps.{Map}
use Rattle.dsy_base.specs.declared.fault.IoFault.{IoFault}
use Rattle.dsy_base.specs.declared.fault.IoFault.TheVariants as io
use Rattle.dsy_base.specs.declared.look.Look.{Ghosts as LookWords}
use Rattle.dsy_base.specs.declared.view.View.{Ghosts as ViewWords}
use Rattle.extract_command.proofs.Assembled.{not_taken_as, same_before, stopped_before}
use Rattle.extract_command.proofs.LentKits.{all_given_back, given_folders as kits_folders}
use Rattle.extract_command.proofs.Had.{all_held}
use Rattle.extract_command.proofs.Shelved.{AreOfFolders, IsTold, cache_filled, cached_there, name_in}
use Rattle.extract_command.proofs.Wrote.{read_with, wrote_on, wrote_read, wrote_then}
use Rattle.extract_command.specs.Extract.{Assembled, ExtractStores, FillsCache, GetsWants, Into, NeverFail, Seeds, answer_of_taking, extract_stores}
use Rattle.extract_command.specs.Held.{IsGivenBack, groups_of}
use Rattle.extract_command.specs.Kits.{AreOpened, IsKitOpened, kit_groups}
use Rattle.extract_command.specs.declared.held.Held.{Held}
use Rattle.extract_command.specs.declared.stores.Stores.{Stores}
use Rattle.store_group.specs.Groups.{Grouped}
use Rattle.extract_plan.specs.Deal.{Deal, IsPlan}
use Rattle.http_wire.specs.declared.reply.Method.TheVariants as method
use Rattle.image_workers.specs.Kits.{worker_asks}
use Rattle.image_workers.specs.Shared.{all_stores}

-- ---- one step after the other

-- the seeds and the kits were opened, and then the file was taken, or couldn't be
pub took_writes : (d c b e : Disk) (name : List ℕ) → Reads d c → Reads c b → OnFile b e name → Writes d e
took_writes d c b e name first next took = wrote_then d b e (wrote_read d b (reads_twice d c b first next)) (wrote_on b e name took)

-- and then what is held was given back, with the folder of a cache
pub back_writes : (o : Option Shelf) (d b e : Disk) → Writes d b → Reads (with_cache o b) e → Writes (with_cache o d) e
back_writes o d b e wrote read = wrote_then (with_cache o d) (with_cache o b) e (record { folders = ap (folders_with o) wrote.folders; counts = wrote.counts; folder_counts = wrote.folder_counts }) (wrote_read (with_cache o b) e read)

module _ {L W V D K : Type 0} (look : LookWords L) (folder : LookWords W) (view : ViewWords V) (state : D → DialState) (h : Held L W V D K) (w v : Storage) (back : IsGivenBack look folder view state h w v) where
  kits : Consults w back.first
  kits = all_given_back look view state h.kits.items w back.first back.kits

  -- what the files hold stays, and what the folders hold beside the cache's
  pub back_reads : Reads (with_cache (seen folder h.shelf) w.disk) v.disk
  back_reads =
      let o = seen folder h.shelf in
      let d = with_cache o w.disk in
      let b = with_cache o back.first.disk in
      let gave = reads_twice b back.cached back.closed (given_reads o back.first.disk back.cached back.cache) back.stores.0.disk in
      reads_twice d b v.disk (read_with o w.disk back.first.disk kits.disk) (reads_twice b back.closed v.disk gave back.seeds)

  -- none but these servers was asked
  pub back_dialed : (groups : List (List Location)) → groups_of look h ≡ groups → All (λ k. kit_groups look view k ≡ groups) h.kits.items → DialsStores (stores_of groups) w.dial v.dial
  back_dialed groups at all = (
    dials_twice w.dial back.first.dial v.dial kits.dial back.stores.0.dial,
    λ t. back.stores.1 (subst (λ (l : List (List Location)). IsTrue (are_folders (stores_of l))) (sym at) t) ∙ kits_folders look view state groups h.kits.items w back.first all back.kits t,
  )

-- ---- what the cache's folder holds in the end

-- what the stores of kits hold is in the folders that they were opened from
of_folders : {L V D K : Type 0} (look : LookWords L) (view : ViewWords V) (state : D → DialState) (all : List (Kit (Grouped (AnyStore L D K)) V)) (stores : Stores) (images : List (List ℕ)) (d b : Disk) → AreOpened look view state d b stores images all
    → (o : Option (Map (Map (List ℕ)))) → d.folders ≡ o → IfSome o (AreOfFolders (group_words look state) (all_stores all) (extract_stores look.never_fails stores))
of_folders look view state all stores images d b are None is = tt
of_folders look view state all stores images d b are (Some m) is = λ fs there id c held. all_held look view state d b stores (record { images = images; listings = [] }) m is fs there all are id c held

-- it was filled from the stores of these kits, or stands as before
pub fills : {L V D K : Type 0} (look : LookWords L) (view : ViewWords V) (state : D → DialState) (all : List (Kit (Grouped (AnyStore L D K)) V)) (stores : Stores) (images : List (List ℕ)) (l : Listing) (o p : Option Shelf) (cache : Option (List ℕ)) (d b e : Disk) → name_in o ≡ cache → IsTold o d.folders
    → AreOpened look view state (with_cache o d) b stores images all → Stocked (TakesListed (group_words look state) l (all_stores all)) o p → Writes (with_cache p d) e → FillsCache (extract_stores look.never_fails stores) cache l (with_cache o d) e
fills look view state all stores images l o p cache d b e named told are stocked wrote = record {
  folders = cache_filled (group_words look state) (all_stores all) (extract_stores look.never_fails stores) l o p cache d.folders (with_cache o d) e named refl wrote.folders told stocked (of_folders look view state all stores images (with_cache o d) b are (with_cache o d).folders refl);
  counts = wrote.counts;
  folder_counts = wrote.folder_counts;
}

-- nothing was added to it
pub unfilled : {L V D : Type 0} (K : Type 0) (look : LookWords L) (view : ViewWords V) (state : D → DialState) (stores : Stores) (l : Listing) (o : Option Shelf) (cache : Option (List ℕ)) (d e : Disk) → name_in o ≡ cache → IsTold o d.folders → Writes (with_cache o d) e → FillsCache (extract_stores look.never_fails stores) cache l (with_cache o d) e
unfilled {L} {V} {D} K look view state stores l o cache d e named told wrote =
    fills look view state [] stores [] l o o cache d d e named told (All-nil (IsKitOpened {L = L} {V = V} {D = D} {K = K} look view state (with_cache o d) d stores [])) (stocked_none (TakesListed (group_words {L = L} {D = D} {K = K} look state) l []) o) wrote

-- ---- where it ended before OUT was written

module _ (stores : ExtractStores) (cache : Option (List ℕ)) (out : Into) (l : Listing) (z : Seeds) (o : Option Shelf) (k : DialState) (d e : Disk) where
  abbrev was : Storage
  was = storage (with_cache o d) k

  abbrev left : Storage
  left = storage e k

  abbrev Cached : List (Map (List ℕ)) → Type 0
  Cached cs = cached_in o ≡ Some (map chunks cs)

  module _ (named : name_in o ≡ cache) (told : IsTold o d.folders) (files : e.files ≡ d.files) (wrote : Writes (with_cache o d) e) where
    -- for want of memory
    pub stopped : Assembled was left stores cache out l z (Err ends.Memory)
    stopped = stopped_before was left stores cache out l z Cached (cached_there o cache named d.folders told) files (refl, wrote.folders)

    -- or since OUT couldn't be taken
    pub untaken : (fault : IoFault) → (fault ≡ io.Failed → FileRose (with_cache o d) e out.name) → Assembled was left stores cache out l z (answer_of_taking fault)
    untaken fault rose = not_taken_as was left stores cache out l z fault (same_before was left stores cache out l z Cached (cached_there o cache named d.folders told) files (refl, wrote.folders)) rose

  -- no server was asked
  pub asked_nothing : (never : NeverFail) (p : Deal) → IsPlan l 1 p → GetsWants never was left stores cache out l z
  asked_nothing never p plan = record {
    workers = 1;
    plan = p;
    planned = plan;
    gets = λ spared are.
        let few = AsksFew method.Get (with_retries stores.retries (worker_asks l p spared 0)) in
        (k.ended, none_dialed few (λ s id. omega arith) (stores_of stores.groups) k.ended, refl);
    sends = (k.ended, none_dialed (SendsFronts (IsListedGet l)) (λ s n t lt. absurd (omega (arith, lt))) (stores_of stores.groups) k.ended, refl);
  }
