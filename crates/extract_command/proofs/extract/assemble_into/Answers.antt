use Rattle.std.proofs.Common.{◌≡◌, ◌∙◌, ℕ, suc, ◌≤◌, All, Bool, List, ◌∷◌, Err, length, Option, IfSome, IsTrue, is_some, map, slice_index_or, refl, sym, ap, subst, arith, inl, inr, IsSome, Result}
use Rattle.std.proofs.lemmas.List.Elements.{All-cons, All-nil}
use Rattle.std.specs.List.{AllZip, fold}
use Rattle.std.specs.Map.{count_at}
use Rattle.std.specs.Option.{option_map}
use Rattle.assembler.specs.OneKit.{lent}
use Rattle.cache_store.specs.Shelves.{Shelf, Shelved}
use Rattle.chunk_sources.specs.Caches.{seen}
use Rattle.chunk_sources.specs.Wants.{Task}
use Rattle.chunk_sources.specs.declared.kit.Kit.{Kit}
use Rattle.chunk_store.specs.declared.store.Store.{Ghosts as StoreWords}
use Rattle.command_steps.proofs.Consulted.{reads_twice}
use Rattle.command_steps.proofs.Dialed.{dials_none}
use Rattle.command_steps.proofs.Given.{all_later}
use Rattle.command_steps.proofs.Numbers.{counted_known, rose_later, rose_longer}
use Rattle.command_steps.proofs.SeedsOpened.{all_known_later}
use Rattle.command_steps.proofs.SeedsUsed.{viewed_names}
use Rattle.command_groups.proofs.Stand.{groups_many}
use Rattle.command_outcome.specs.declared.outcome.Outcome.{Outcome}
use Rattle.command_groups.proofs.Words.{group_words}
use Rattle.command_groups.specs.Groups.{stores_of}
use Rattle.command_groups.specs.Numbers.{answer_of_stores}
use Rattle.command_groups.specs.Opened.{IsGroupGiven, all_locations, locations_in, with_group}
use Rattle.command_steps.specs.Cache.{with_cache}
use Rattle.command_steps.specs.Seeds.{IsViewed, image_name, label_in}
use Rattle.command_steps.specs.Sources.{DialsStores, storage}
use Rattle.command_steps.specs.Uses.{IsNoneOf, Uses, folders_among, names_among}
use Rattle.command_steps.specs.declared.any_store.AnyStore.{AnyStore}
use Rattle.command_words.specs.declared.command.Location.{Location}
use Rattle.command_worlds.specs.Worlds.{Reads}
use Rattle.dsy_base.specs.Counts.{raised}
use Rattle.dsy_base.specs.Disk.{Disk, GivesFile}
use Rattle.dsy_base.specs.Links.{DialState}
use Rattle.dsy_base.specs.Maps.{Map, at_name}
use Rattle.extract_command.proofs.Between.{asked_nothing, back_dialed, back_reads, back_writes, fills, stopped, took_writes, unfilled, untaken}
use Rattle.extract_command.proofs.First.{as_many, by_first}
use Rattle.extract_command.proofs.LentKits.{LooksTell, all_give_later, give_later, opened_kits, opened_names}
use Rattle.extract_command.proofs.Run.{IsRun, run_asks, run_assembled}
use Rattle.extract_command.proofs.Tasks.{task}
use Rattle.extract_command.proofs.Shelved.{IsTold, fresh_faults, gone_seen, known_still, name_after, name_in, same_kind, same_names, told_files}
use Rattle.extract_command.proofs.UsedKits.{IsHeldStill, held_given, held_still}
use Rattle.extract_command.proofs.Using.{made_used, opened_used, seeds_used, untaken_used, untouched_used}
use Rattle.extract_command.proofs.Wrote.{untaken_numbered, wrote_back, wrote_read, wrote_then}
use Rattle.extract_command.proofs.extract.assemble_into.Given.{Over}
use Rattle.extract_command.proofs.extract.assemble_into.Goals.{After-of_kits-held}
use Rattle.extract_command.proofs.extract.assemble_into.Goals as goal
use Rattle.extract_command.specs.Extract.{Assembled, FillsCache, Into, Seeds, answer_of_assembly, extract_stores, folders_reached, never_fail}
use Rattle.extract_command.specs.Held.{CanBeGiven, HasNames, IsGivenBack}
use Rattle.extract_command.specs.Kits.{AreOpened, UsesNames}
use Rattle.extract_command.specs.declared.stores.Stores.{Stores}
use Rattle.extract_plan.specs.Deal.{IsPlan}
use Rattle.extract_plan.specs.Places.{PlacesKnown}
use Rattle.extract_plan.specs.Seeds as seeds
use Rattle.image_workers.specs.Kits.{IsAssembledBy}
use Rattle.store_group.specs.Groups.{Grouped}

-- what is seen of the cache
abbrev see : (g : Over) → Option (Shelved g.row.F-Folder.Denot) → Option Shelf
see g = seen g.F.Folder.Look

-- what is told of its stores
abbrev words : (g : Over) → StoreWords (Grouped (AnyStore g.row.F-Look.Denot g.row.D.Denot g.row.D-Link.Denot))
words g = group_words g.F.Look.Look g.D.Dial.state

cache_told : (g : Over) (f : g.row.F.Denot) (o : Option (Shelved g.row.F-Folder.Denot)) → IsTold (see g o) (g.F.Files.disk f).folders
cache_told g f o = told_files g.F.Folder.Look (g.met.F.Folder.Look g.world.𝓛 g.world.𝓜 g.world.𝓡 ((λ s y. y), (λ y. y), (λ y. y), (λ y. y))).told (g.F.Files.disk f).folders
    (λ some. (g.met.F.Files.alike.0 (subst (λ t. IsTrue t) (g.met.F.Files.told f).1 some)).3) o

looks_tell : (g : Over) (f : g.row.F.Denot) → LooksTell g.F.Look.Look (g.F.Files.disk f).folders
looks_tell g f m is l =
    let some : IsTrue (is_some (g.F.Files.disk f).folders) = subst (λ (y : Option (Map (Map (List ℕ)))). IsTrue (is_some y)) (sym is) refl in
    (g.met.F.Look.Look g.world.𝓛 g.world.𝓜 g.world.𝓡 ((λ s y. y), (λ y. y), (λ y. y), (λ y. y))).told l ∙ (g.met.F.Files.alike.0 (subst (λ t. IsTrue t) (g.met.F.Files.told f).1 some)).2

named : (g : Over) (cache : Option (List ℕ)) (o : Option (Shelved g.row.F-Folder.Denot)) → option_map (λ s. g.F.Folder.Look.place s.folder) o ≡ cache → name_in (see g o) ≡ cache
named g cache o is = same_names g.F.Folder.Look o ∙ is

pub let_go-requires : goal.let_go-requires
let_go-requires g c =
    let at = g.F.Files.disk in
    let d' = at c.args.files.now in
    let b = at c.open_seeds.new.files in
    let read = c.in_default.ensures.kept in
    let lent = c.requires.held.lent in
    record {
      given = record {
        stores = all_later d'.folder_counts b.folder_counts read.folder_known (all_locations g.F.Look.Look.place c.args.held.stores.items) lent.stores;
        named = lent.named;
        cache = known_still c.args.held.cache d'.folder_counts b.folder_counts read.folder_known lent.cache;
        seeds = all_known_later g.F.View.View.held d'.file_counts b.file_counts read.known c.args.held.seeds.items lent.seeds;
        kits = all_give_later g.F.Look.Look g.F.View.View d' b read c.args.held.kits.items lent.kits;
      };
    }

pub open_kits-requires : goal.open_kits-requires
open_kits-requires g c = record {
  size = c.requires.size;
  some = c.workers_with_room-workers.ensures.size.0;
  room = (c.args.held.kits.ok.0 ∙ ap length c.requires.held.room.0, omega (arith, c.workers_with_room-workers.ensures.size.1, c.requires.held.room.1));
}

pub let_go-requires-in-Err : goal.let_go-requires-in-Err
let_go-requires-in-Err g c =
    let at = g.F.Files.disk in
    let look = g.F.Look.Look in
    let view = g.F.View.View in
    let d' = at c.args.files.now in
    let b0 = at c.open_seeds.new.files in
    let b = at c.open_kits.new.files in
    let b2 = at c.take.new.self in
    let lent = c.requires.held.lent in
    let folders : (q : List ℕ) → IsSome (b.folder_counts q) → IsSome (b2.folder_counts q) = λ q is. subst (λ (m : Map ℕ). IsSome (m q)) (sym c.in-Err.ensures.counts.folder_counts) is in
    let folder_known : (q : List ℕ) → IsSome (d'.folder_counts q) → IsSome (b2.folder_counts q) = λ q is. folders q (c.open_kits.ensures.kept.folder_known q (c.in-Ok.ensures.kept.folder_known q is)) in
    let known : (q : List ℕ) → IsSome (b.file_counts q) → IsSome (b2.file_counts q) = counted_known b.file_counts b2.file_counts _ c.in-Err.ensures.counts.counts in
    let more = c.open_kits.new.kits.items in
    record {
      given = record {
        stores = all_later d'.folder_counts b2.folder_counts folder_known (all_locations look.place c.args.held.stores.items) lent.stores;
        named = lent.named;
        cache = known_still c.args.held.cache d'.folder_counts b2.folder_counts folder_known lent.cache;
        seeds = all_known_later view.held b0.file_counts b2.file_counts (λ q is. known q (c.open_kits.ensures.kept.known q is)) c.in-Ok.seeds.items c.in-Ok.ensures.known;
        kits = λ n k lt. give_later look view b b2 folders known (slice_index_or more n k) (c.open_kits.ensures.opened n k lt).given;
      };
    }

pub into_kits-kits-requires-clause-size : goal.into_kits-kits-requires-clause-size
into_kits-kits-requires-clause-size g c = groups_many (locations_in g.F.Look.Look.place) c.args.planned.now.stores.groups c.args.planned.now.stores.retries c.args.held.stores.items c.requires.located c.requires.size

pub into_kits-kits-requires-clause-room : goal.into_kits-kits-requires-clause-room
into_kits-kits-requires-clause-room g c = omega (arith, c.open_kits.ensures.room)

pub assemble-ended-requires-clause-size : goal.assemble-ended-requires-clause-size
assemble-ended-requires-clause-size g c κs within =
    let many : length c.into_kits-kits.result.0.items ≡ suc (length c.open_kits.new.kits.items) = ap length c.into_kits-kits.ensures.kits.0.first in
    (omega (arith, c.into_kits-kits.result.0.ok.0, many), omega (arith, c.into_kits-kits.result.0.ok.0, many, c.open_kits.new.kits.ok.0, c.open_kits.ensures.few, c.workers_with_room-workers.ensures.size.1, c.requires.workers.1))

pub assemble-ended-requires-clause-places : goal.assemble-ended-requires-clause-places
assemble-ended-requires-clause-places g c κs within =
    let at = g.F.Files.disk in
    let look = g.F.Look.Look in
    let view = g.F.View.View in
    let state = g.D.Dial.state in
    let into = c.into_kits-kits.ensures.kits.0 in
    let more = c.open_kits.new.kits.items in
    let l = c.args.planned.now.index in
    let x = c.args.planned.now.places in (
      c.requires.plan.0,
      c.requires.plan.1,
      subst (λ xs. All (λ q. PlacesKnown l c.requires.plan.0 x (length q.seeds.items)) xs) (sym into.first)
          (All-cons (λ q. PlacesKnown l c.requires.plan.0 x (length q.seeds.items)) into.kit more
          (as_many (at c.args.files.now) (at c.open_seeds.new.files) view.held c.args.planned.now.seeds into.kit.seeds.items (subst (λ xs. AllZip (IsViewed (at c.args.files.now) (at c.open_seeds.new.files)) (map image_name c.args.planned.now.seeds) (map (seeds.seed_held view.held) xs)) (sym into.seeds_are) (rw c.as_slice-names.ensures at c.in-Ok.ensures.found)) l c.requires.plan.0 x c.requires.plan.2)
          (λ n q lt. as_many (at c.open_seeds.new.files) (at c.open_kits.new.files) view.held c.args.planned.now.seeds (slice_index_or more n q).seeds.items (rw c.as_slice-names.ensures at (c.open_kits.ensures.opened n q lt).viewed) l c.requires.plan.0 x c.requires.plan.2)),
    )

pub assemble-ended-requires-clause-kind : goal.assemble-ended-requires-clause-kind
assemble-ended-requires-clause-kind g c κs within =
    let into = c.into_kits-kits.ensures.kits in
    let more = c.open_kits.new.kits.items in
    subst (λ k. All (λ q. q.chain.kind ≡ k) c.into_kits-kits.result.0.items) c.kind-kind.ensures
    (subst (λ l. All (λ q. q.chain.kind ≡ c.kind-kind.result) l) (sym into.0.first) (All-cons (λ q. q.chain.kind ≡ c.kind-kind.result) into.0.kit more into.1 c.open_kits.ensures.kinds))

pub assemble-ended-requires-clause-cache : goal.assemble-ended-requires-clause-cache
assemble-ended-requires-clause-cache g c κs within = rw c.into_kits-kits.ensures.shelf (same_kind g.F.Folder.Look _ c.args.held.shelf c.requires.held.shelf)

pub of_kits-held-requires : goal.of_kits-held-requires
of_kits-held-requires g c =
    let many : length c.into_kits-kits.result.0.items ≡ suc (length c.open_kits.new.kits.items) = ap length c.into_kits-kits.ensures.kits.0.first in
    record { some = omega (arith, c.into_kits-kits.result.0.ok.0, many, c.assemble-ended.ensures.size) }

-- ---- where the seeds couldn't be opened

pub returns-in_default-clause-assembled : goal.returns-in_default-clause-assembled
returns-in_default-clause-assembled g c = λ p ls plan is.
    let at = g.F.Files.disk in
    let o = see g c.args.held.shelf in
    let d = at c.args.files.now in
    let b = at c.open_seeds.new.files in
    let e = at c.let_go.new.files in
    let read = c.in_default.ensures.kept in
    let gone = c.let_go.ensures.kept in
    stopped (extract_stores g.F.Look.Look.never_fails c.args.planned.now.stores) c.args.held.cache (record { name = c.args.target.now; fresh = c.args.fresh }) c.args.planned.now.index (record { images = map image_name c.args.planned.now.seeds; listings = ls }) o (g.D.Dial.state c.args.dial.now) d e
    (named g c.args.held.cache c.args.held.shelf c.requires.held.lent.named) (cache_told g c.args.files.now c.args.held.shelf) (gone.files ∙ read.files) (back_writes o d b e (wrote_read d b read) gone)

pub returns-in_default-clause-numbered : goal.returns-in_default-clause-numbered
returns-in_default-clause-numbered g c = inr (refl, c.let_go.ensures.kept.files ∙ c.in_default.ensures.kept.files)

pub returns-in_default-clause-kept : goal.returns-in_default-clause-kept
returns-in_default-clause-kept g c =
    let at = g.F.Files.disk in
    let o = see g c.args.held.shelf in
    let d = at c.args.files.now in
    let b = at c.open_seeds.new.files in
    let e = at c.let_go.new.files in
    unfilled g.row.D-Link.Denot g.F.Look.Look g.F.View.View g.D.Dial.state c.args.planned.now.stores c.args.planned.now.index o c.args.held.cache d e (named g c.args.held.cache c.args.held.shelf c.requires.held.lent.named) (cache_told g c.args.files.now c.args.held.shelf)
    (back_writes o d b e (wrote_read d b c.in_default.ensures.kept) c.let_go.ensures.kept)

pub returns-in_default-clause-dialed : goal.returns-in_default-clause-dialed
returns-in_default-clause-dialed g c = (dials_none _, λ t. refl)

pub returns-in_default-clause-asks : goal.returns-in_default-clause-asks
returns-in_default-clause-asks g c = λ p ls plan is. asked_nothing (extract_stores g.F.Look.Look.never_fails c.args.planned.now.stores) c.args.held.cache (record { name = c.args.target.now; fresh = c.args.fresh }) c.args.planned.now.index
    (record { images = map image_name c.args.planned.now.seeds; listings = ls }) (see g c.args.held.shelf) (g.D.Dial.state c.args.dial.now) (g.F.Files.disk c.args.files.now) (g.F.Files.disk c.let_go.new.files) (never_fail g.F.Target.View.never_fails g.F.Folder.Look.never_fails) p plan

pub returns-in_default-clause-used : goal.returns-in_default-clause-used
returns-in_default-clause-used g c =
    let at = g.F.Files.disk in
    let look = g.F.Look.Look in
    let view = g.F.View.View in
    let b = at c.open_seeds.new.files in
    let images = map image_name c.args.planned.now.seeds in
    let groups = map (locations_in look.place) c.args.held.stores.items in
    let folders = folders_reached c.args.held.cache groups in
    let has : HasNames look view images c.args.held = record {
      seeds = λ n none. subst (λ l. IsNoneOf n (names_among (map (seeds.seed_held view.held) l))) (sym c.requires.held.none) tt;
      kits = subst (λ l. All (UsesNames look view images (folders_among (stores_of groups))) l) (sym c.requires.held.room.0) (All-nil (UsesNames look view images (folders_among (stores_of groups))));
    } in
    let d = at c.args.files.now in
    let e = at c.let_go.new.files in
    let opened = seeds_used images folders d b (rw c.as_slice-names.ensures at c.in_default.ensures.used) in
    let used = untouched_used c.args.target.now images folders d b opened e (c.let_go.ensures.used images has) in
    let named = subst (λ (n : List (List Location)). Uses (c.args.target.now ∷ images) (folders_reached c.args.held.cache n) d e) c.requires.located used in
    record { files = named.files; folders = named.folders }

-- ---- where OUT couldn't be taken

pub returns-in-Err-clause-assembled : goal.returns-in-Err-clause-assembled
returns-in-Err-clause-assembled g c = λ p ls plan is.
    let at = g.F.Files.disk in
    let o = see g c.args.held.shelf in
    let d = at c.args.files.now in
    let b0 = at c.open_seeds.new.files in
    let b = at c.open_kits.new.files in
    let b2 = at c.take.new.self in
    let e = at c.let_go-in-Err.new.files in
    let q = c.args.target.now in
    let read = c.in-Ok.ensures.kept in
    let opened = c.open_kits.ensures.kept in
    let took = c.in-Err.ensures in
    let gone = c.let_go-in-Err.ensures.kept in
    let le : count_at d.file_counts q ≤ count_at b.file_counts q = (reads_twice d b0 b read opened).counts q in
    rw c.not_taken.ensures (untaken (extract_stores g.F.Look.Look.never_fails c.args.planned.now.stores) c.args.held.cache (record { name = q; fresh = c.args.fresh }) c.args.planned.now.index (record { images = map image_name c.args.planned.now.seeds; listings = ls }) o (g.D.Dial.state c.args.dial.now) d e
    (named g c.args.held.cache c.args.held.shelf c.requires.held.lent.named) (cache_told g c.args.files.now c.args.held.shelf) (gone.files ∙ took.err ∙ opened.files ∙ read.files) (back_writes o d b2 e (took_writes d b0 b b2 q read opened took.counts) gone) c.in-Err.fault
    (λ failed. rose_longer (count_at d.file_counts q) (count_at b2.file_counts q) (count_at e.file_counts q) (gone.counts q) (rose_later (count_at d.file_counts q) (count_at b.file_counts q) (count_at b2.file_counts q) le (took.faults.cause (ap Err failed)))))

pub returns-in-Err-clause-numbered : goal.returns-in-Err-clause-numbered
returns-in-Err-clause-numbered g c =
    let at = g.F.Files.disk in
    let q = c.args.target.now in
    let b = at c.open_kits.new.files in
    let b2 = at c.take.new.self in
    let e = at c.let_go-in-Err.new.files in
    let gone = c.let_go-in-Err.ensures.kept in
    rw c.not_taken.ensures (untaken_numbered q (at c.args.files.now) e (count_at b.file_counts q) c.in-Err.fault
    (λ failed. rose_longer (count_at b.file_counts q) (count_at b2.file_counts q) (count_at e.file_counts q) (gone.counts q) (c.in-Err.ensures.faults.cause (ap Err failed)))
    (gone.files ∙ c.in-Err.ensures.err ∙ c.open_kits.ensures.kept.files ∙ c.in-Ok.ensures.kept.files))

pub returns-in-Err-clause-kept : goal.returns-in-Err-clause-kept
returns-in-Err-clause-kept g c =
    let at = g.F.Files.disk in
    let o = see g c.args.held.shelf in
    let d = at c.args.files.now in
    let b2 = at c.take.new.self in
    let e = at c.let_go-in-Err.new.files in
    unfilled g.row.D-Link.Denot g.F.Look.Look g.F.View.View g.D.Dial.state c.args.planned.now.stores c.args.planned.now.index o c.args.held.cache d e (named g c.args.held.cache c.args.held.shelf c.requires.held.lent.named) (cache_told g c.args.files.now c.args.held.shelf)
    (back_writes o d b2 e (took_writes d (at c.open_seeds.new.files) (at c.open_kits.new.files) b2 c.args.target.now c.in-Ok.ensures.kept c.open_kits.ensures.kept c.in-Err.ensures.counts) c.let_go-in-Err.ensures.kept)

pub returns-in-Err-clause-tells : goal.returns-in-Err-clause-tells
returns-in-Err-clause-tells g c = (g.met.F.Files.told c.let_go-in-Err.new.files).0 ∙ sym ((g.met.F.Files.told c.args.files.now).0)

pub returns-in-Err-clause-dialed : goal.returns-in-Err-clause-dialed
returns-in-Err-clause-dialed g c = (dials_none _, λ t. refl)

pub returns-in-Err-clause-asks : goal.returns-in-Err-clause-asks
returns-in-Err-clause-asks g c = λ p ls plan is. asked_nothing (extract_stores g.F.Look.Look.never_fails c.args.planned.now.stores) c.args.held.cache (record { name = c.args.target.now; fresh = c.args.fresh }) c.args.planned.now.index
    (record { images = map image_name c.args.planned.now.seeds; listings = ls }) (see g c.args.held.shelf) (g.D.Dial.state c.args.dial.now) (g.F.Files.disk c.args.files.now) (g.F.Files.disk c.let_go-in-Err.new.files) (never_fail g.F.Target.View.never_fails g.F.Folder.Look.never_fails) p plan

pub returns-in-Err-clause-used : goal.returns-in-Err-clause-used
returns-in-Err-clause-used g c =
    let at = g.F.Files.disk in
    let look = g.F.Look.Look in
    let view = g.F.View.View in
    let state = g.D.Dial.state in
    let d = at c.args.files.now in
    let b0 = at c.open_seeds.new.files in
    let b = at c.open_kits.new.files in
    let b2 = at c.take.new.self in
    let e = at c.let_go-in-Err.new.files in
    let cache = c.args.held.cache in
    let images = map image_name c.args.planned.now.seeds in
    let names = c.args.planned.now.stores in
    let more = c.open_kits.new.kits.items in
    let others : AreOpened look view state b0 b names images more = rw c.as_slice-names.ensures at c.open_kits.ensures.opened in
    let opened = opened_used images cache names.groups d b0 b (rw c.as_slice-names.ensures at c.in-Ok.ensures.used) (rw c.as_slice-names.ensures at c.open_kits.ensures.used) in
    let kits : All (UsesNames look view images (folders_among (stores_of names.groups))) more = λ n x lt. opened_names look view state b0 b names images (slice_index_or more n x) (others n x lt) in
    let gone = c.let_go-in-Err.ensures.used images (record {
      seeds = viewed_names d b0 images (map (seeds.seed_held view.held) c.in-Ok.seeds.items) (rw c.as_slice-names.ensures at c.in-Ok.ensures.found);
      kits = subst (λ (n : List (List Location)). All (UsesNames look view images (folders_among (stores_of n))) more) (sym c.requires.located) kits;
    }) in
    let named = subst (λ (n : List (List Location)). Uses images (folders_reached cache n) b2 e) c.requires.located gone in
    let used = untaken_used c.args.target.now images (folders_reached cache names.groups) d b opened b2 e c.in-Err.ensures.counts named in
    record { files = used.files; folders = used.folders }

-- ---- after the assembly

module _ (g : Over) (c : After-of_kits-held g) where
  abbrev d' : Disk
  d' = g.F.Files.disk c.args.files.now

  abbrev b0 : Disk
  b0 = g.F.Files.disk c.open_seeds.new.files

  abbrev b : Disk
  b = g.F.Files.disk c.open_kits.new.files

  abbrev b2 : Disk
  b2 = g.F.Files.disk c.take.new.self

  abbrev e0 : Option Shelf
  e0 = see g c.args.held.shelf

  abbrev e1 : Option Shelf
  e1 = see g c.assemble-ended.result.cache

  abbrev state : g.row.D.Denot → DialState
  state = g.D.Dial.state

  abbrev names : Stores
  names = c.args.planned.now.stores

  abbrev images : List (List ℕ)
  images = map image_name c.args.planned.now.seeds

  abbrev out : Into
  out = record { name = c.args.target.now; fresh = c.args.fresh }

  abbrev OurKit : Type 0
  OurKit = Kit (Grouped (AnyStore g.row.F-Look.Denot g.row.D.Denot g.row.D-Link.Denot)) g.row.F-View.Denot

  abbrev k : OurKit
  k = c.into_kits-kits.ensures.kits.0.kit

  abbrev j : OurKit
  j = c.of_kits-held.ensures.kits.kit

  abbrev more : List OurKit
  more = c.open_kits.new.kits.items

  abbrev rest : List OurKit
  rest = c.of_kits-held.result.kits.items

  abbrev made_by : Task
  made_by = task c.args.planned.now.index c.assemble-ended.ensures.kits.0 c.args.planned.now.places

  abbrev t0 : Option (List ℕ)
  t0 = (g.F.Target.View.held c.in-Ok-take.taken).bytes

  abbrev t1 : Option (List ℕ)
  t1 = (g.F.Target.View.held c.assemble-ended.result.target).bytes

  abbrev f0 : ℕ
  f0 = g.F.Target.View.faults c.in-Ok-take.taken

  abbrev f1 : ℕ
  f1 = g.F.Target.View.faults c.assemble-ended.result.target

  abbrev never : Bool
  never = g.F.Target.View.never_fails

  abbrev cache_never : Bool
  cache_never = g.F.Folder.Look.never_fails

  cache_is : name_in e0 ≡ c.args.held.cache
  cache_is = named g c.args.held.cache c.args.held.shelf c.requires.held.lent.named

  made : IsAssembledBy (words g) g.F.View.View made_by never cache_never t0 t1 (lent f0 (k ∷ more) e0) (lent f1 (j ∷ rest) e1) c.assemble-ended.result.answer
  made =
      let into = c.into_kits-kits.ensures in
      let by = c.assemble-ended.ensures.kits in
      by_first (words g) g.F.View.View made_by never cache_never t0 t1 f0 f1 (see g c.into_kits-kits.result.2) e0 e1 c.into_kits-kits.result.0.items (k ∷ more) c.assemble-ended.result.kits.items (j ∷ rest) c.assemble-ended.result.answer
      (ap (see g) into.shelf) into.kits.0.first c.of_kits-held.ensures.kits.first by.2

  all : AreOpened g.F.Look.Look g.F.View.View state (with_cache e0 d') b names images (k ∷ more)
  all =
      let into = c.into_kits-kits.ensures.kits in
      let held = c.requires.held in
      let others : AreOpened g.F.Look.Look g.F.View.View state b0 b names images more = rw c.as_slice-names.ensures at c.open_kits.ensures.opened in
      let gone = gone_seen e0 c.args.held.cache d'.folders cache_is held.gone in
      opened_kits g.F.Look.Look g.F.View.View state e0 d' b0 b c.in-Ok.ensures.kept c.open_kits.ensures.kept names images c.args.held.stores.items c.in-Ok.seeds.items k more into.0.stores_are into.0.seeds_are c.requires.located
      held.found held.fresh held.unused held.lent.stores (rw c.as_slice-names.ensures at c.in-Ok.ensures.found) c.in-Ok.ensures.fresh c.in-Ok.ensures.known gone (looks_tell g c.args.files.now) others

  -- what is held can be given back
  can_give : CanBeGiven g.F.Look.Look g.F.Folder.Look g.F.View.View b2 c.of_kits-held.result
  can_give =
      let last = c.of_kits-held.ensures in
      let into = c.into_kits-kits.ensures in
      let cache = c.args.held.cache in
      let folders : (q : List ℕ) → IsSome (b.folder_counts q) → IsSome (b2.folder_counts q) = λ q is. subst (λ (m : Map ℕ). IsSome (m q)) (sym c.in-Ok-take.ensures.counts.folder_counts) is in
      let files : (q : List ℕ) → IsSome (b.file_counts q) → IsSome (b2.file_counts q) = counted_known b.file_counts b2.file_counts _ c.in-Ok-take.ensures.counts.counts in
      let name_now : name_in e1 ≡ cache = name_after _ e0 e1 cache made.stocked cache_is in
      held_given g.F.Look.Look g.F.View.View state made_by never cache_never (with_cache e0 d') b names images t0 t1 f0 f1 e0 e1 (k ∷ more) j c.of_kits-held.result c.assemble-ended.result.answer all made last.kits.stores_are last.kits.seeds_are
      g.F.Folder.Look b2 folders files (rw (last.shelf, last.cache, into.cache) (sym (same_names g.F.Folder.Look c.assemble-ended.result.cache) ∙ name_now))
      (subst (λ (o : Option (List ℕ)). IfSome o (λ q. IsSome (b2.folder_counts q))) (sym (last.cache ∙ into.cache)) (known_still cache d'.folder_counts b2.folder_counts (λ q is. folders q (c.open_kits.ensures.kept.folder_known q (c.in-Ok.ensures.kept.folder_known q is))) c.requires.held.lent.cache))

  still : IsHeldStill g.F.Look.Look g.F.View.View names images c.of_kits-held.result
  still =
      let last = c.of_kits-held.ensures.kits in
      held_still g.F.Look.Look g.F.View.View state made_by never cache_never (with_cache e0 d') b names images t0 t1 f0 f1 e0 e1 (k ∷ more) j c.of_kits-held.result c.assemble-ended.result.answer all made last.stores_are last.seeds_are

  module _ (b4 : Disk) (k1 : DialState) (back : IsGivenBack g.F.Look.Look g.F.Folder.Look g.F.View.View state c.of_kits-held.result (storage b2 (state c.args.dial.now)) (storage b4 k1)) where
    -- it was given back
    read : Reads (with_cache e1 b2) b4
    read = subst (λ s. Reads (with_cache (see g s) b2) b4) c.of_kits-held.ensures.shelf (back_reads g.F.Look.Look g.F.Folder.Look g.F.View.View state c.of_kits-held.result (storage b2 (state c.args.dial.now)) (storage b4 k1) back)

    out_known : IsSome (b4.file_counts c.args.target.now)
    out_known = read.known c.args.target.now c.in-Ok-take.ensures.known

    dialed : DialsStores (stores_of names.groups) (state c.args.dial.now) k1
    dialed = back_dialed g.F.Look.Look g.F.Folder.Look g.F.View.View state c.of_kits-held.result (storage b2 (state c.args.dial.now)) (storage b4 k1) back names.groups still.located still.kits

    -- and then OUT
    module _ (e : Disk) (put : GivesFile b4 e c.args.target.now f1) where
      kept : FillsCache (extract_stores g.F.Look.Look.never_fails names) c.args.held.cache c.args.planned.now.index (with_cache e0 d') e
      kept =
          let took = took_writes d' b0 b b2 c.args.target.now c.in-Ok.ensures.kept c.open_kits.ensures.kept c.in-Ok-take.ensures.counts in
          let wrote = wrote_then (with_cache e1 d') b4 e (back_writes e1 d' b2 b4 took read) (wrote_back b4 e c.args.target.now f1 put) in
          fills g.F.Look.Look g.F.View.View state (k ∷ more) names images c.args.planned.now.index e0 e1 c.args.held.cache d' b e cache_is (cache_told g c.args.files.now c.args.held.shelf) all made.stocked wrote

      used : Uses (c.args.target.now ∷ images) (folders_reached c.args.held.cache names.groups) d' e
      used =
          let folders = folders_reached c.args.held.cache names.groups in
          let opened = opened_used images c.args.held.cache names.groups d' b0 b (rw c.as_slice-names.ensures at c.in-Ok.ensures.used) (rw c.as_slice-names.ensures at c.open_kits.ensures.used) in
          let gave = subst (λ (n : List (List Location)). Uses images (folders_reached c.of_kits-held.result.cache n) b2 b4) still.located (back.used images still.named) in
          let gone = subst (λ (o : Option (List ℕ)). Uses images (folders_reached o names.groups) b2 b4) (c.of_kits-held.ensures.cache ∙ c.into_kits-kits.ensures.cache) gave in
          made_used c.args.target.now images folders d' b opened b2 b4 e f1 c.in-Ok-take.ensures.counts gone put

      run : e.files ≡ option_map (λ m. at_name m c.args.target.now t1) b4.files
          → IsRun g.row.D-Link.Denot g.F.Look.Look g.F.View.View state never cache_never d' e0 (state c.args.dial.now) e k1 names images c.args.held.cache out c.args.planned.now.index c.args.planned.now.places c.assemble-ended.result.answer
      run put_files =
          let look = g.F.Look.Look in
          let view = g.F.View.View in
          let last = c.of_kits-held.ensures in
          let by = c.assemble-ended.ensures.kits in
          let took = c.in-Ok-take.ensures in
          record {
            b0 = b0;
            b = b;
            b2 = b2;
            read = c.in-Ok.ensures.kept;
            opened = c.open_kits.ensures.kept;
            t0 = t0;
            f0 = f0;
            fresh = took.fresh.0;
            bytes = took.bytes;
            took = took.ok;
            taken = took.counts;
            k = k;
            more = more;
            all = all;
            deal = by.0;
            planned = subst (λ xs. IsPlan c.args.planned.now.index (length xs) by.0) c.into_kits-kits.ensures.kits.0.first by.1;
            t1 = t1;
            f1 = f1;
            e1 = e1;
            j = j;
            rest = rest;
            told = g.met.F.Target.View.told c.in-Ok-take.taken ∙ sym (g.met.F.Target.View.told c.assemble-ended.result.target);
            made = made;
            first = back.first;
            kits = back.kits;
            bc = back.cached;
            b3 = back.closed;
            b4 = b4;
            shelf = rw last.shelf at back.cache;
            stores = back.stores.0;
            given = subst (λ xs. All (IsGroupGiven look.place look.faults state (storage back.cached back.first.dial) (storage back.closed k1)) xs) (sym last.kits.stores_are) back.given;
            ended = subst (λ xs. k1.ended ≡ fold (with_group state) back.first.dial.ended xs) (sym last.kits.stores_are) back.ended;
            seeds = back.seeds;
            added = subst (λ xs. All (λ s. raised (count_at back.closed.file_counts (label_in view.held s)) (seeds.faults_in view.faults s) ≤ count_at b4.file_counts (label_in view.held s)) xs) (sym last.kits.seeds_are) back.added;
            put = put;
            put_files = put_files;
            named = cache_is;
            sound = fresh_faults g.F.Folder.Look _ c.args.held.shelf c.requires.held.shelf;
            shelf_told = cache_told g c.args.files.now c.args.held.shelf;
            tells = λ m y. (g.met.F.Files.alike.0 (subst (λ t. IsTrue t) ((g.met.F.Files.told c.args.files.now).0) (subst (λ (o : Option (Map (List ℕ))). IsTrue (is_some o)) (sym y) refl))).0;
          }

pub give_back-requires : goal.give_back-requires
give_back-requires g c = record { given = can_give g (goal.at.give_back-requires g c).After-of_kits-held }

pub give-requires-clause-known : goal.give-requires-clause-known
give-requires-clause-known g c = out_known g (goal.at.give-requires-clause-known g c).After-of_kits-held (g.F.Files.disk c.give_back.new.files) (g.D.Dial.state c.give_back.new.dial) c.give_back.ensures.given

pub numbered-answer-requires : goal.numbered-answer-requires
numbered-answer-requires g c =
    record { few = rw c.as_slice-groups.ensures c.requires.size.few }

pub returns-clause-assembled : goal.returns-clause-assembled
unfolding run
returns-clause-assembled g c = λ p ls plan is.
    let here = (goal.at.returns-clause-assembled g c).After-of_kits-held in
    let at = g.F.Files.disk in
    let state = g.D.Dial.state in
    let w = storage (with_cache (e0 g here) (d' g here)) (state c.args.dial.now) in
    let v = storage (at c.give.new.self) (state c.give_back.new.dial) in
    let l = c.args.planned.now.index in
    let z : Seeds = record { images = images g here; listings = ls } in
    let made = run_assembled g.F.Look.Look g.F.View.View state g.F.Target.View.never_fails g.F.Folder.Look.never_fails (at c.args.files.now) (see g c.args.held.shelf) (state c.args.dial.now) (at c.give.new.self) (state c.give_back.new.dial) (names g here) (images g here) c.args.held.cache (out g here) l c.args.planned.now.places c.assemble-ended.result.answer
    (run g here (at c.give_back.new.files) (state c.give_back.new.dial) c.give_back.ensures.given (at c.give.new.self) c.give.ensures.counts c.give.ensures.files) p ls plan is in
    let groups = c.args.planned.now.stores.groups in
    let answer : c.numbered-answer.result ≡ answer_of_stores groups (answer_of_assembly c.assemble-ended.result.answer) =
    c.numbered-answer.ensures.value ∙ ap (λ (n : List (List Location)). answer_of_stores n c.answer_of.result) c.as_slice-groups.ensures ∙ ap (λ (r : Result Unit Outcome). answer_of_stores groups r) c.answer_of.ensures in
    subst (λ (r : Result Unit Outcome). Assembled w v (extract_stores g.F.Look.Look.never_fails (names g here)) c.args.held.cache (out g here) l z r) (sym answer) made

pub returns-clause-asks : goal.returns-clause-asks
returns-clause-asks g c = λ p ls plan is.
    let here = (goal.at.returns-clause-asks g c).After-of_kits-held in
    let at = g.F.Files.disk in
    let state = g.D.Dial.state in
    run_asks g.F.Look.Look g.F.View.View state g.F.Target.View.never_fails g.F.Folder.Look.never_fails (at c.args.files.now) (see g c.args.held.shelf) (state c.args.dial.now) (at c.give.new.self) (state c.give_back.new.dial) (names g here) (images g here) c.args.held.cache (out g here) c.args.planned.now.index c.args.planned.now.places c.assemble-ended.result.answer
    (run g here (at c.give_back.new.files) (state c.give_back.new.dial) c.give_back.ensures.given (at c.give.new.self) c.give.ensures.counts c.give.ensures.files) p ls plan is

pub returns-clause-kept : goal.returns-clause-kept
returns-clause-kept g c = kept g (goal.at.returns-clause-kept g c).After-of_kits-held (g.F.Files.disk c.give_back.new.files) (g.D.Dial.state c.give_back.new.dial) c.give_back.ensures.given (g.F.Files.disk c.give.new.self) c.give.ensures.counts

pub returns-clause-used : goal.returns-clause-used
returns-clause-used g c =
    let by = used g (goal.at.returns-clause-used g c).After-of_kits-held (g.F.Files.disk c.give_back.new.files) (g.D.Dial.state c.give_back.new.dial) c.give_back.ensures.given (g.F.Files.disk c.give.new.self) c.give.ensures.counts in
    record { files = by.files; folders = by.folders }

pub returns-clause-dialed : goal.returns-clause-dialed
returns-clause-dialed g c = dialed g (goal.at.returns-clause-dialed g c).After-of_kits-held (g.F.Files.disk c.give_back.new.files) (g.D.Dial.state c.give_back.new.dial) c.give_back.ensures.given

pub returns-clause-numbered : goal.returns-clause-numbered
returns-clause-numbered g c = inl (c.give.ensures.counts.counts.counted.known (out_known g (goal.at.returns-clause-numbered g c).After-of_kits-held (g.F.Files.disk c.give_back.new.files) (g.D.Dial.state c.give_back.new.dial) c.give_back.ensures.given))

pub returns-clause-tells : goal.returns-clause-tells
returns-clause-tells g c = (g.met.F.Files.told c.give.new.self).0 ∙ sym ((g.met.F.Files.told c.args.files.now).0)
