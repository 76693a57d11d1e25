-- The stores of a server that are all folders, and its cache, when they are given back.
use Rattle.std.proofs.Common.{◌≡◌, ◌∙◌, ℕ, ◌≤◌, Bool, List, [], ◌∷◌, All, length, map, Option, Some, IfSome, IsTrue, Result, refl, sym, ap, subst, arith}
use Rattle.std.proofs.lemmas.Bool.{false≢true}
use Rattle.std.specs.Map.{count_at}
use Rattle.std.specs.Option.{option_map}
use Rattle.cache_store.specs.Shelves.{Shelf}
use Rattle.chunk_proxy.specs.Leaving.{IsChunkGet}
use Rattle.chunk_store.specs.declared.id.DigestKind.{DigestKind}
use Rattle.command_groups.proofs.Folders.{put_twice, was_put}
use Rattle.command_groups.specs.Asking.{with_retries}
use Rattle.command_groups.specs.Groups.{stores_of}
use Rattle.command_outcome.specs.declared.outcome.Outcome.{Outcome}
use Rattle.command_steps.proofs.Cached.{given_adds}
use Rattle.command_steps.proofs.Dialed.{dials_none}
use Rattle.command_steps.specs.Asking.{AsksOnly, EachDialed}
use Rattle.command_steps.specs.AnyStores.{IsKnown}
use Rattle.command_steps.specs.Cache.{CacheGiven, with_cache}
use Rattle.command_steps.specs.Sources.{storage}
use Rattle.command_steps.specs.Stores.{are_folders}
use Rattle.command_words.specs.declared.command.Location.{Location}
use Rattle.command_words.specs.declared.command.Location.TheVariants as locations
use Rattle.command_worlds.specs.Worlds.{Adds, Reads}
use Rattle.dsy_base.specs.Counts.{raised}
use Rattle.dsy_base.specs.Disk.{Disk}
use Rattle.dsy_base.specs.Links.{DialState, Traffic}
use Rattle.dsy_base.specs.Maps.{Map, at_name}
use Rattle.locked_proxy.specs.Chains.{chain_places}
use Rattle.locked_shelf.specs.Keepings.{KeepsOpening}
use Rattle.proxy_command.proofs.OfFolders.{groups_stand}
use Rattle.proxy_command.specs.FolderChains.{KnowsChains}
use Rattle.proxy_command.specs.ProxyServing.{IsServedFrom, LookTypes, ProxyServed}
use Rattle.server_commands.specs.Serving.{Heard}
use Rattle.store_chain.specs.Chains.{Chained}
use Rattle.store_group.specs.Groups.{Grouped, group_place}

-- ---- folders that were asked

module _ {L : Type 0} (place : L → List ℕ) (counts : Map ℕ) where
  -- they can be given back
  pub known_after : (before after : List (Chained (Grouped L))) → 1 ≤ length before → All (λ c. map (group_place place) c.stores ≡ chain_places (group_place place) before) after → KnowsChains place counts before → KnowsChains place counts after
  known_after [] after some lie known = absurd (omega (arith, some))
  known_after (f ∷ more) after some lie known = λ n c lt.
      subst (λ (l : List (List Location)). All (IsKnown counts) (stores_of l)) (sym (groups_stand place _ f.stores (lie n c lt))) (known 0 f (omega arith))

-- ---- no server was asked

module _ (gets heads : List ℕ → ℕ) where
  folders_only : (g : List Location) → IsTrue (are_folders g) → (o : Option (List Traffic)) → EachDialed (AsksOnly gets heads IsChunkGet) g o o
  folders_only [] all o = refl
  folders_only (locations.Folder q ∷ g) all o = folders_only g all o
  folders_only (locations.Http host port prefix ∷ g) all o = absurd (false≢true all)

-- ---- all of it

module _ (groups : List (List Location)) (again : ℕ) (cache : List ℕ) (kind : DigestKind) (s t : Shelf) (d m e : Disk) (reads : Reads d m) (gives : CacheGiven (Some t) m e) (at : s.place ≡ cache) (named : t.place ≡ s.place) (digest : s.kind ≡ kind)
    (all : IsTrue (are_folders (stores_of groups))) where
  abbrev w : Disk
  w = with_cache (Some s) d

  gave : Adds m e
  gave = given_adds (Some t) m e gives

  back : e.folders ≡ option_map (λ (x : Map (Map (List ℕ))). at_name x cache t.files) w.folders
  back = gives.0 ∙ ap (λ (o : Option (Map (Map (List ℕ)))). option_map (λ (x : Map (Map (List ℕ))). at_name x t.place t.files) o) reads.folders
      ∙ ap (λ (q : List ℕ). option_map (λ (x : Map (Map (List ℕ))). at_name x q t.files) d.folders) named ∙ put_twice d.folders s.place s.files t.files ∙ ap (λ (q : List ℕ). option_map (λ (x : Map (Map (List ℕ))). at_name x q t.files) w.folders) at

  counted : raised (count_at d.folder_counts t.place) t.faults ≤ count_at e.folder_counts t.place
  counted =
      let added = gives.1.folder_counts.added in
      let more = reads.folder_counts t.place in
      omega (arith, added, more)

  pub folders_served : (looks : LookTypes) (h : Heard) (in_turn : Bool) (k : DialState) (r : Result Unit Outcome) → IsServedFrom looks h groups s.kind in_turn w.folders s.files t.files r → IfSome s.files (λ first. KeepsOpening s.kind first t.files)
      → ProxyServed looks h groups again cache kind in_turn (storage w k) r (storage e k)
  folders_served looks h in_turn k r served kept = record {
    held = s.files;
    was = subst (λ (q : List ℕ). IfSome w.folders (λ x. x q ≡ s.files)) at (was_put d.folders s.place s.files);
    left = record { files = t.files; faults = t.faults };
    kept = subst (λ (n : DigestKind). IfSome s.files (λ first. KeepsOpening n first t.files)) digest kept;
    back = back;
    counted = subst (λ (q : List ℕ). raised (count_at d.folder_counts q) t.faults ≤ count_at e.folder_counts q) (named ∙ at) counted;
    serving = subst (λ (n : DigestKind). IsServedFrom looks h groups n in_turn w.folders s.files t.files r) digest served;
    adds = record {
      files = gave.files ∙ reads.files;
      counts = λ q. omega (arith, reads.counts q, gave.counts q);
      folder_counts = λ q. omega (arith, reads.folder_counts q, gave.folder_counts q);
      known = λ q is. gave.known q (reads.known q is);
      folder_known = λ q is. gave.folder_known q (reads.folder_known q is);
    };
    dials = dials_none k;
    undialed = λ yes. refl;
    asks = λ yes. (λ id. 0, folders_only (with_retries again (λ id. 0)) (with_retries again (λ id. 0)) (stores_of groups) all k.ended);
  }
