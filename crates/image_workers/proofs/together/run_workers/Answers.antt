use Rattle.std.proofs.Common.{◌≡◌, ◌∙◌, inl, inr, ◌<◌, ◌∷◌, ◌≤◌, ℕ, suc, zero, Bool, List, [], true, false, All, IfOk, IfSome, IsSome, IsTrue, None, Option, Some, length, map, refl, reverse, slice_index_or, sym, ap, subst, arith, rules, Err}
use Rattle.std.proofs.lemmas.Bool.{true≢false}
use Rattle.std.proofs.lemmas.List.{get_or-map, length-map, length-reverse, reverse-append, with_items_is}
use Rattle.std.specs.Global.{Vec}
use Rattle.std.specs.Vec.{with_items}
use Rattle.assembler.specs.OneKit.{lent}
use Rattle.assembler.specs.Stages.{task, Stage}
use Rattle.assembler.specs.declared.fault.ExtractFault.TheVariants as faults
use Rattle.caibx_codec.specs.Listing.{count_of, kind_of}
use Rattle.assembler.proofs.Others.{seen_alone}
use Rattle.cache_store.specs.Shelves.{MayAdd, Shelf, Shelved}
use Rattle.chunk_sources.proofs.Cached.{stocked_falls, stocked_kind}
use Rattle.chunk_sources.specs.Caches.{OthersAddListed, Stocked, TakesListed, cache_faults, cached_in, given_maps, seen, IsListedAs}
use Rattle.chunk_store.specs.Kinds.{kind_named}
use Rattle.chunk_store.specs.Members.{maps_of, told_together}
use Rattle.chunk_store.specs.declared.id.DigestKind.{DigestKind}
use Rattle.dsy_base.specs.Bytes.{Held}
use Rattle.dsy_base.specs.Maps.{Map}
use Rattle.image_workers.proofs.Doors.{lacks_before, lacks_between, named_kind, named_opens}
use Rattle.image_workers.proofs.Sharing.{Adds, adds_own, door, door_fresh, door_gave, door_lists, door_some, door_told, stocked_alike, stocked_all}
use Rattle.image_workers.specs.Shared.{GivesNoMore, all_stores, door_shelf, pairs_of}
use Rattle.chunk_sources.specs.Sources.{SourcesQuiet, sources, views_of}
use Rattle.chunk_sources.specs.declared.kit.Kit.{Kit}
use Rattle.image_workers.proofs.Exact.{exact_once, exact_twice, lacking_one}
use Rattle.image_workers.proofs.Going.{a_kit, all_there, as_many, filled_of, knew_at, ready_again, ready_at, worked_at}
use Rattle.image_workers.proofs.Kits.{assembled_by}
use Rattle.image_workers.proofs.Moving.{map_twice}
use Rattle.image_workers.proofs.Permitting.{permits}
use Rattle.image_workers.proofs.Reports.{kept_so, none_adds, none_faults, quiet_ways, reported_so, reported_together}
use Rattle.image_workers.proofs.Spared.{ExactlyDealt, WasInShards, used_once, used_twice}
use Rattle.image_workers.proofs.Working.{stays_none}
use Rattle.image_workers.specs.Beside.{AssembledBeside, BegunBeside, ComesFrom, joined_stage}
use Rattle.image_workers.specs.Kits.{IsUnshared, KitUsed, at_kit}
use Rattle.image_workers.specs.Lanes.{HasWorked, IsReadyFor, kit_of, known_of, tools_of}
use Rattle.image_workers.specs.Reporting.{CountsFates, reported_at}
use Rattle.image_workers.specs.declared.lanes.Lane.{Lane}
use Rattle.range_survey.specs.declared.fate.Fate.{Fate}
use Rattle.image_workers.proofs.together.run_workers.Given.{Over}
use Rattle.image_workers.proofs.together.run_workers.Goals.{After-deref_mut, After-reverse, After-some_lacked-lacked, In-Some}
use Rattle.image_workers.proofs.together.run_workers.Goals as goal

-- the door of each worker to the cache
abbrev door_seen : (g : Over) → Option (Shelved g.row.F.Denot) → Option Shelf
door_seen g cache = door_shelf (kind_named g.N.FolderName.kind) g.N.FolderName.opening g.N.FolderName.pairs g.N.FolderName.stores 0 (seen g.F.Look cache)

lanes_are : (g : Over) (c : After-deref_mut g) → map tools_of c.deref_mut.result.now ≡ map (λ (q : Kit g.row.S.Denot g.row.V.Denot). Some (q, c.args.shards.fates)) c.args.workers.kits.items
lanes_are g c = ap (map tools_of) c.deref_mut.ensures.value ∙ c.lanes_of-room.ensures.lanes

many : (g : Over) (c : After-deref_mut g) → length c.deref_mut.result.now ≡ length c.args.workers.kits.items
many g c = as_many c.args.workers.kits.items c.args.shards.fates c.deref_mut.result.now (lanes_are g c)

pub pass_all-shards-requires-clause-ready : goal.pass_all-shards-requires-clause-ready
pass_all-shards-requires-clause-ready g c κs within =
    let here = (goal.at.pass_all-shards-requires-clause-ready g c).After-deref_mut in
    ready_at c.args.workers.kits.items c.args.shards.fates c.deref_mut.result.now (lanes_are g here) (IsReadyFor g.S.Store g.V.View g.R.RunName.run (task g.R.RunName.run.listing c.args.wants.now) (door_seen g c.args.cache)) c.requires.ready

many_kits : (g : Over) (c : After-deref_mut g) → 2 ≤ length c.args.workers.kits.items
many_kits g c = search rules

some_kit : (g : Over) (c : After-deref_mut g) → 0 < length c.args.workers.kits.items
some_kit g c = omega (arith, many_kits g c)

pub pass_all-shards-requires-clause-some : goal.pass_all-shards-requires-clause-some
pass_all-shards-requires-clause-some g c κs within =
    let here = (goal.at.pass_all-shards-requires-clause-some g c).After-deref_mut in
    omega (arith, some_kit g here, many g here)

after : (g : Over) (c : After-some_lacked-lacked g) → (with_items c.lanes_of-room.result.2 c.pass_all-shards.new.lanes).items ≡ c.pass_all-shards.new.lanes
after g c = with_items_is c.lanes_of-room.result.2 c.pass_all-shards.new.lanes (omega (arith, c.pass_all-shards.ensures.lanes, c.deref_mut.ensures.len))

pub kits_of-kits-requires-clause-there : goal.kits_of-kits-requires-clause-there
kits_of-kits-requires-clause-there g c =
    let here = (goal.at.kits_of-kits-requires-clause-there g c).After-some_lacked-lacked in
    let early = (goal.at.kits_of-kits-requires-clause-there g c).After-deref_mut in
    subst (λ (ys : List (Lane g.row.S.Denot g.row.V.Denot)). All (λ a. IsSome (kit_of a)) ys) (sym (after g here))
    (all_there c.args.workers.kits.items c.args.shards.fates c.deref_mut.result.now (lanes_are g early) g.S.Store g.V.View g.R.RunName.run (task g.R.RunName.run.listing c.args.wants.now) (door_seen g c.args.cache) g.T.View.never_fails g.F.Look.never_fails
    c.pass_all-shards.new.lanes c.pass_all-shards.ensures.lanes c.pass_all-shards.ensures.each)

pub kits_of-kits-requires-clause-room : goal.kits_of-kits-requires-clause-room
kits_of-kits-requires-clause-room g c =
    let early = (goal.at.kits_of-kits-requires-clause-room g c).After-deref_mut in
    omega (arith, c.lanes_of-room.ensures.room, many g early, c.deref_mut.ensures.len, (let same : length c.args.workers.kits.items ≡ c.args.workers.kits.len = search rules in same))

pub kits_of-kits-requires-clause-lists : goal.kits_of-kits-requires-clause-lists
kits_of-kits-requires-clause-lists g c =
    let early = (goal.at.kits_of-kits-requires-clause-lists g c).After-deref_mut in
    omega (arith, c.lanes_of-room.ensures.lists, many g early, c.deref_mut.ensures.len, (let same : length c.args.workers.kits.items ≡ c.args.workers.kits.len = search rules in same))

-- the kits as they come out of the lanes
outs_are : (g : Over) (c : In-Some g) → reverse c.kits_of-kits.result.0.items ≡ c.in-Some.kit ∷ reverse c.pop.new.self.items
outs_are g c = ap reverse c.in-Some.ensures.items ∙ reverse-append c.pop.new.self.items (c.in-Some.kit ∷ [])

kits_are : (g : Over) (c : In-Some g) → map (λ (q : Kit g.row.S.Denot g.row.V.Denot). Some q) (reverse c.kits_of-kits.result.0.items) ≡ map kit_of c.pass_all-shards.new.lanes
kits_are g c = c.kits_of-kits.ensures.kits ∙ ap (map kit_of) (with_items_is c.lanes_of-room.result.2 c.pass_all-shards.new.lanes (omega (arith, c.pass_all-shards.ensures.lanes, c.deref_mut.ensures.len)))

lanes_so : (g : Over) (c : In-Some g) → map tools_of c.deref_mut.result.now ≡ map (λ (q : Kit g.row.S.Denot g.row.V.Denot). Some (q, c.args.shards.fates)) c.args.workers.kits.items
lanes_so g c = ap (map tools_of) c.deref_mut.ensures.value ∙ c.lanes_of-room.ensures.lanes

abbrev none_there : (g : Over) → Lane g.row.S.Denot g.row.V.Denot
none_there g = record { tools = None; lacked = false }

-- what each worker has done
went : (g : Over) (c : In-Some g) (k : ℕ) (q p : Kit g.row.S.Denot g.row.V.Denot) → k < length c.args.workers.kits.items
    → (n : List Fate) × HasWorked g.S.Store g.V.View g.R.RunName.run (task g.R.RunName.run.listing c.args.wants.now) (door_seen g c.args.cache) g.T.View.never_fails g.F.Look.never_fails k (slice_index_or c.args.workers.kits.items k q) c.args.shards.fates
    (slice_index_or (reverse c.kits_of-kits.result.0.items) k p) n (slice_index_or c.pass_all-shards.new.lanes k (none_there g)).lacked
went g c = worked_at c.args.workers.kits.items c.args.shards.fates c.deref_mut.result.now (lanes_so g c) g.S.Store g.V.View g.R.RunName.run (task g.R.RunName.run.listing c.args.wants.now) (door_seen g c.args.cache) g.T.View.never_fails g.F.Look.never_fails
    c.pass_all-shards.new.lanes c.pass_all-shards.ensures.lanes c.pass_all-shards.ensures.each (reverse c.kits_of-kits.result.0.items) (kits_are g c)

many_there : (g : Over) (c : In-Some g) → 2 ≤ length c.args.workers.kits.items
many_there g c = search rules

some_one : (g : Over) (c : In-Some g) → 0 < length c.args.workers.kits.items
some_one g c = omega (arith, many_there g c)

first_kit : (g : Over) (c : In-Some g) → Kit g.row.S.Denot g.row.V.Denot
first_kit g c = a_kit c.args.workers.kits.items (some_one g c)

-- and what it knows then
abbrev lists_of : (g : Over) (c : In-Some g) → List (List Fate)
lists_of g c = map (λ (v : Vec Fate). v.items) c.kits_of-kits.result.1.items

lists_are : (g : Over) (c : In-Some g) → map (λ (n : List Fate). Some n) (lists_of g c) ≡ map known_of c.pass_all-shards.new.lanes
lists_are g c = map_twice (λ (v : Vec Fate). v.items) (λ (n : List Fate). Some n) c.kits_of-kits.result.1.items
    ∙ c.kits_of-kits.ensures.known ∙ ap (map known_of) (with_items_is c.lanes_of-room.result.2 c.pass_all-shards.new.lanes (omega (arith, c.pass_all-shards.ensures.lanes, c.deref_mut.ensures.len)))

knew : (g : Over) (c : In-Some g) (k : ℕ) (q p : Kit g.row.S.Denot g.row.V.Denot) → k < length c.args.workers.kits.items
    → HasWorked g.S.Store g.V.View g.R.RunName.run (task g.R.RunName.run.listing c.args.wants.now) (door_seen g c.args.cache) g.T.View.never_fails g.F.Look.never_fails k (slice_index_or c.args.workers.kits.items k q) c.args.shards.fates
    (slice_index_or (reverse c.kits_of-kits.result.0.items) k p) (slice_index_or (lists_of g c) k []) (slice_index_or c.pass_all-shards.new.lanes k (none_there g)).lacked
knew g c = knew_at c.args.workers.kits.items c.args.shards.fates c.deref_mut.result.now (lanes_so g c) g.S.Store g.V.View g.R.RunName.run (task g.R.RunName.run.listing c.args.wants.now) (door_seen g c.args.cache) g.T.View.never_fails g.F.Look.never_fails
    c.pass_all-shards.new.lanes c.pass_all-shards.ensures.lanes c.pass_all-shards.ensures.each (reverse c.kits_of-kits.result.0.items) (kits_are g c) (lists_of g c) (lists_are g c)

-- there are as many lists as kits
many_lists : (g : Over) (c : In-Some g) → length c.kits_of-kits.result.1.items ≡ length c.args.workers.kits.items
many_lists g c =
    let vecs = c.kits_of-kits.result.1.items in
    sym (length-map vecs (λ (v : Vec Fate). v.items)) ∙ sym (length-map (lists_of g c) (λ (n : List Fate). Some n)) ∙ ap length (lists_are g c) ∙ length-map c.pass_all-shards.new.lanes known_of
    ∙ c.pass_all-shards.ensures.lanes ∙ as_many c.args.workers.kits.items c.args.shards.fates c.deref_mut.result.now (lanes_so g c)

-- the first has
first_went : (g : Over) (c : In-Some g) (q : Kit g.row.S.Denot g.row.V.Denot)
    → (n : List Fate) × HasWorked g.S.Store g.V.View g.R.RunName.run (task g.R.RunName.run.listing c.args.wants.now) (door_seen g c.args.cache) g.T.View.never_fails g.F.Look.never_fails 0 (slice_index_or c.args.workers.kits.items 0 q) c.args.shards.fates
    c.in-Some.kit n (slice_index_or c.pass_all-shards.new.lanes 0 (none_there g)).lacked
first_went g c q =
    let h = went g c 0 q c.in-Some.kit (some_one g c) in
    let is : slice_index_or (reverse c.kits_of-kits.result.0.items) 0 c.in-Some.kit ≡ c.in-Some.kit = ap (λ (zs : List (Kit g.row.S.Denot g.row.V.Denot)). slice_index_or zs 0 c.in-Some.kit) (outs_are g c) in (
      h.0,
      subst (λ (b : Kit g.row.S.Denot g.row.V.Denot). HasWorked g.S.Store g.V.View g.R.RunName.run (task g.R.RunName.run.listing c.args.wants.now) (door_seen g c.args.cache) g.T.View.never_fails g.F.Look.never_fails 0
          (slice_index_or c.args.workers.kits.items 0 q) c.args.shards.fates b h.0 (slice_index_or c.pass_all-shards.new.lanes 0 (none_there g)).lacked) is h.1,
    )

-- ---- the cache

abbrev at_first : (g : Over) (c : In-Some g) → Option Shelf
at_first g c = seen g.F.Look c.args.cache

abbrev between : (g : Over) (c : In-Some g) → Option Shelf
between g c = seen g.F.Look c.pass_all-shards.result.1

door_is : (g : Over) (c : In-Some g) → door_seen g c.args.cache ≡ door g.S.Store g.R.RunName.run.listing c.args.workers.kits.items g.N.FolderName.opening (at_first g c)
door_is g c =
    ap (λ (k : DigestKind). door_shelf k g.N.FolderName.opening g.N.FolderName.pairs g.N.FolderName.stores 0 (at_first g c)) c.requires.kind
    ∙ ap (λ (p : Option (List (List ℕ × ℕ))). door_shelf (kind_of g.R.RunName.run.listing) g.N.FolderName.opening p g.N.FolderName.stores 0 (at_first g c)) c.requires.pairs
    ∙ ap (λ (m : Option (List (Map (List ℕ)))). door_shelf (kind_of g.R.RunName.run.listing) g.N.FolderName.opening (Some (pairs_of g.R.RunName.run.listing)) m 0 (at_first g c)) c.requires.stores

added : (g : Over) (c : In-Some g) → Stocked (Adds g.S.Store g.R.RunName.run.listing c.args.workers.kits.items) (at_first g c) (between g c)
added g c =
    subst (λ (p : Option (List (List ℕ × ℕ))). Stocked (MayAdd (kind_of g.R.RunName.run.listing) p (maps_of g.S.Store.members (all_stores c.args.workers.kits.items))) (at_first g c) (between g c)) c.requires.pairs
    (subst (λ (m : Option (List (Map (List ℕ)))). Stocked (MayAdd (kind_of g.R.RunName.run.listing) g.N.FolderName.pairs m) (at_first g c) (between g c)) c.requires.stores
    (subst (λ (k : DigestKind). Stocked (MayAdd k g.N.FolderName.pairs g.N.FolderName.stores) (at_first g c) (between g c)) c.requires.kind c.pass_all-shards.ensures.stocked))

opens : (g : Over) (c : In-Some g) → IfSome (at_first g c) (λ s. g.N.FolderName.opening ≡ s.files)
opens g c = named_opens (kind_named g.N.FolderName.kind) g.N.FolderName.opening g.N.FolderName.place g.N.FolderName.faults (at_first g c) c.requires.named

gave : (g : Over) (c : In-Some g) → GivesNoMore (kind_of g.R.RunName.run.listing) (given_maps (door_seen g c.args.cache)) (between g c)
gave g c = subst (λ (e : Option Shelf). GivesNoMore (kind_of g.R.RunName.run.listing) (given_maps e) (between g c)) (sym (door_is g c))
    (door_gave g.S.Store g.R.RunName.run.listing c.args.workers.kits.items g.N.FolderName.opening (at_first g c) (opens g c) (between g c) (seen_alone g.F.Look c.pass_all-shards.result.1) (added g c))

-- ---- the second pass

came : (g : Over) (c : In-Some g) (old : Held) (f : ℕ) → BegunBeside g.R.RunName.run old f c.args.shards → (q : Kit g.row.S.Denot g.row.V.Denot)
    → ComesFrom g.S.Store g.V.View g.R.RunName.run (task g.R.RunName.run.listing c.args.wants.now) old.bytes (given_maps (door_seen g c.args.cache))
    (sources f (slice_index_or c.args.workers.kits.items 0 q).seeds.items (at_first g c) (slice_index_or c.args.workers.kits.items 0 q).chain) c.pass_all-shards.result.0 (between g c) c.in-Some.kit
came g c old f begun q =
    let step = (first_went g c q).1.passed.stretch.step in
    record {
      before = subst (λ (n : ℕ). f ≤ n) (sym c.pass_all-shards.ensures.before) begun.before;
      base = begun.base;
      told = begun.told;
      tells = c.keeps-2.ensures.tells ∙ c.requires.tells;
      permits = c.requires.permits q;
      gives = gave g c;
      falls = stocked_falls (Adds g.S.Store g.R.RunName.run.listing c.args.workers.kits.items) (at_first g c) (between g c) (added g c);
      seeds = step.seeds;
      stores = step.stores;
    }

pub finish-target-requires-clause-ready : goal.finish-target-requires-clause-ready
finish-target-requires-clause-ready g c =
    let here = (goal.at.finish-target-requires-clause-ready g c).In-Some in
    let q = first_kit g here in
    let h = first_went g here q in
    ready_again g.S.Store g.V.View g.R.RunName.run c.args.wants.now.plan.now c.args.wants.now.places.now (door_seen g c.args.cache) g.T.View.never_fails g.F.Look.never_fails (slice_index_or c.args.workers.kits.items 0 q)
    c.in-Some.kit c.args.shards.fates h.0
    (slice_index_or c.pass_all-shards.new.lanes 0 (none_there g)).lacked c.pass_all-shards.result.0 (between g here)
    (stocked_kind (Adds g.S.Store g.R.RunName.run.listing c.args.workers.kits.items) (at_first g here) (between g here) (kind_of g.R.RunName.run.listing) (added g here)
    (subst (λ (k : DigestKind). IfSome (at_first g here) (λ s. s.kind ≡ k)) c.requires.kind
    (named_kind (kind_named g.N.FolderName.kind) g.N.FolderName.opening g.N.FolderName.place g.N.FolderName.faults (at_first g here) c.requires.named)))
    (c.requires.ready 0 q (some_one g here)) h.1

pub finish-target-requires-clause-may : goal.finish-target-requires-clause-may
finish-target-requires-clause-may g c =
    let here = (goal.at.finish-target-requires-clause-may g c).In-Some in
    let r = g.R.RunName.run in
    let d = c.args.wants.now.plan.now in
    let x = c.args.wants.now.places.now in
    let q = first_kit g here in
    let first = slice_index_or c.args.workers.kits.items 0 q in
    let wants = (c.requires.ready 0 q (some_one g here)).ready.wants in
    let step = (first_went g here q).1.passed.stretch.step in
    let w = c.pass_all-shards.result.0 in
    permits r d x wants g.S.Store g.V.View (views_of g.V.View first.seeds.items) (given_maps (door_seen g c.args.cache)) (maps_of g.S.Store.members first.chain.stores) (c.requires.permits q)
    (joined_stage w (between g here) c.in-Some.kit) (gave g here) step.seeds.held (ap told_together step.stores.members)
    (filled_of g.S.Store g.V.View r d x wants w w.held.bytes (c.keeps-2.ensures.tells ∙ c.requires.tells) c.keeps-2.ensures.kept) (λ _. Unit {0})

-- ---- the lists

pub finish-target-requires-clause-workers : goal.finish-target-requires-clause-workers
finish-target-requires-clause-workers g c =
    let here = (goal.at.finish-target-requires-clause-workers g c).In-Some in
    ap length c.deref-2.ensures.value ∙ many_lists g here ∙ sym (c.requires.workers ∙ (let size : c.args.workers.kits.len ≡ length c.args.workers.kits.items = search rules in size))

pub finish-target-requires-clause-known : goal.finish-target-requires-clause-known
finish-target-requires-clause-known g c =
    let here = (goal.at.finish-target-requires-clause-known g c).In-Some in
    let vecs = c.kits_of-kits.result.1.items in
    let q = first_kit g here in
    let count = count_of g.R.RunName.run.listing in
    subst (λ vs. All (λ v. length v.items ≡ count) vs) (sym c.deref-2.ensures.value)
    (λ k v less.
    let inside : k < length c.args.workers.kits.items = omega (arith, less, many_lists g here) in
    ap (λ (n : List Fate). length n) (sym (get_or-map (λ (w : Vec Fate). w.items) vecs k v [] less))
    ∙ (knew g here k q q inside).passed.stretch.step.grows.size ∙ (c.requires.ready k q inside).known.size)

-- ---- memory

lanes_seen : (g : Over) (c : After-some_lacked-lacked g) → c.deref.result.now ≡ c.pass_all-shards.new.lanes
lanes_seen g c = c.deref.ensures.value ∙ after g c

pub finish-target-requires-clause-lacked : goal.finish-target-requires-clause-lacked
finish-target-requires-clause-lacked g c = λ is.
    let here = (goal.at.finish-target-requires-clause-lacked g c).In-Some in
    let before = (goal.at.finish-target-requires-clause-lacked g c).After-some_lacked-lacked in
    let early = (goal.at.finish-target-requires-clause-lacked g c).After-deref_mut in
    let at = c.some_lacked-lacked.ensures.yes is in
    let q = first_kit g here in
    let less : at.0 < length c.args.workers.kits.items = omega (arith, at.1, ap (λ (zs : List (Lane g.row.S.Denot g.row.V.Denot)). length zs) (lanes_seen g before), c.pass_all-shards.ensures.lanes, many g early) in
    lacks_between g.S.Store (Adds g.S.Store g.R.RunName.run.listing c.args.workers.kits.items) (kind_named g.N.FolderName.kind) g.N.FolderName.opening g.N.FolderName.pairs g.N.FolderName.stores (at_first g here) (between g here) (added g here)
    ((went g here at.0 q q less).1.memory (subst (λ (zs : List (Lane g.row.S.Denot g.row.V.Denot)). (slice_index_or zs at.0 (none_there g)).lacked ≡ true) (lanes_seen g before) (at.2 (none_there g))))

-- ---- the kits in the end

kits_back : (g : Over) (c : After-reverse g) → c.reverse.new.self.items ≡ c.finish-target.result.kit ∷ reverse c.pop.new.self.items
kits_back g c = c.reverse.ensures.items ∙ ap reverse c.put_back.ensures.items ∙ reverse-append c.pop.new.self.items (c.finish-target.result.kit ∷ [])

same_later : {A : Type 0} (xs ys zs : List A) (x y : A) → xs ≡ x ∷ zs → ys ≡ y ∷ zs → (k : ℕ) (p : A) → 0 < k → slice_index_or xs k p ≡ slice_index_or ys k p
same_later xs ys zs x y one other zero p some = absurd (omega (arith, some))
same_later xs ys zs x y one other (suc k) p some = ap (λ ws. slice_index_or ws (suc k) p) one ∙ sym (ap (λ ws. slice_index_or ws (suc k) p) other)

as_many_kits : {A : Type 0} (xs ys zs : List A) (x y : A) → xs ≡ x ∷ zs → ys ≡ y ∷ zs → length ys ≡ length xs
as_many_kits xs ys zs x y one other = ap length other ∙ sym (ap length one)

by_worker : (P : ℕ → Type 0) → P 0 → ((k : ℕ) → 0 < k → P k) → (k : ℕ) → P k
by_worker P first others zero = first
by_worker P first others (suc k) = others (suc k) (omega arith)

out_long : (g : Over) (c : In-Some g) → length (reverse c.kits_of-kits.result.0.items) ≡ length c.pass_all-shards.new.lanes
out_long g c = sym (length-map (reverse c.kits_of-kits.result.0.items) (λ (q : Kit g.row.S.Denot g.row.V.Denot). Some q)) ∙ ap length (kits_are g c) ∙ length-map c.pass_all-shards.new.lanes kit_of

pub returns-clause-size : goal.returns-clause-size
returns-clause-size g c =
    let here = (goal.at.returns-clause-size g c).In-Some in
    let early = (goal.at.returns-clause-size g c).After-deref_mut in
    let last = (goal.at.returns-clause-size g c).After-reverse in
    let same = as_many_kits (reverse c.kits_of-kits.result.0.items) c.reverse.new.self.items (reverse c.pop.new.self.items) c.in-Some.kit c.finish-target.result.kit (outs_are g here) (kits_back g last) in
    (omega (arith, same, out_long g here, c.pass_all-shards.ensures.lanes, many g early), c.finish-target.ensures.size)

pub returns-clause-faults : goal.returns-clause-faults
returns-clause-faults g c = omega (arith, c.pass_all-shards.ensures.before, c.keeps-2.ensures.faults, c.finish-target.ensures.faults)

pub returns-clause-bytes : goal.returns-clause-bytes
returns-clause-bytes g c = λ old f begun.
    let here = (goal.at.returns-clause-bytes g c).In-Some in
    let q = first_kit g here in
    let first = slice_index_or c.args.workers.kits.items 0 q in
    (c.finish-target.ensures.assembled old.bytes (given_maps (door_seen g c.args.cache)) (sources f first.seeds.items (at_first g here) first.chain) (came g here old f begun q)).bytes

pub returns-clause-memory : goal.returns-clause-memory
returns-clause-memory g c = λ is.
    let here = (goal.at.returns-clause-memory g c).In-Some in
    lacks_before g.S.Store (Adds g.S.Store g.R.RunName.run.listing c.args.workers.kits.items) (at_first g here) (between g here) (added g here) (c.finish-target.ensures.memory is)

pub returns-clause-kits : goal.returns-clause-kits
returns-clause-kits g c = λ old f begun fill.
    let here = (goal.at.returns-clause-kits g c).In-Some in
    let early = (goal.at.returns-clause-kits g c).After-deref_mut in
    let before = (goal.at.returns-clause-kits g c).After-some_lacked-lacked in
    let last = (goal.at.returns-clause-kits g c).After-reverse in
    let r = g.R.RunName.run in
    let d = c.args.wants.now.plan.now in
    let x = c.args.wants.now.places.now in
    let t = task r.listing c.args.wants.now in
    let kits = c.args.workers.kits.items in
    let worked = reverse c.kits_of-kits.result.0.items in
    let outs = c.reverse.new.self.items in
    let never = g.T.View.never_fails in
    let w0 = c.args.shards in
    let w1 = c.pass_all-shards.result.0 in
    let sure = g.F.Look.never_fails in
    let c0 = at_first g here in
    let c1 = between g here in
    let l = r.listing in
    let e0 = door_seen g c.args.cache in
    let own = door g.S.Store l kits g.N.FolderName.opening c0 in
    let room = Adds g.S.Store l kits in
    let end = c.finish-target.result in
    let count = g.T.View.faults end.target in
    let e = seen g.F.Look end.cache in
    let from_first : Kit g.row.S.Denot g.row.V.Denot → _ = λ q. sources f (slice_index_or kits 0 q).seeds.items c0 (slice_index_or kits 0 q).chain in
    let to_kit : Kit g.row.S.Denot g.row.V.Denot → _ = λ b. sources count b.seeds.items e b.chain in
    let back : (j : Kit g.row.S.Denot g.row.V.Denot) → end.kit ≡ slice_index_or outs 0 j = λ j. sym (ap (λ (zs : List (Kit g.row.S.Denot g.row.V.Denot)). slice_index_or zs 0 j) (kits_back g last)) in
    let wants = (c.requires.ready 0 (first_kit g here) (some_one g here)).ready.wants in
    let passed = c.finish-target.ensures.passed.1 in
    let was : WasInShards g.S.Store g.V.View r d x wants never old.bytes f count w0 w1 = record {
      base = begun.base;
      told = begun.told;
      before = begun.before;
      sure = c.pass_all-shards.ensures.sure;
      same = c.pass_all-shards.ensures.before;
      rises = c.keeps-2.ensures.faults;
      ends = c.finish-target.ensures.faults;
      tells = c.keeps.ensures.tells ∙ c.requires.tells;
      kept = c.keeps.ensures.kept;
      tells_then = c.keeps-2.ensures.tells ∙ c.requires.tells;
      kept_then = c.keeps-2.ensures.kept;
    } in
    let stood : Stage g.row.S.Denot g.row.V.Denot = record { held = g.T.View.held end.target; faults = count; fates = c.finish-target.ensures.passed.0; kit = end.kit; cache = e } in
    let known = (c.requires.ready 0 (first_kit g here) (some_one g here)).known in
    let lacked : ℕ → Bool = λ n. (slice_index_or c.pass_all-shards.new.lanes n (none_there g)).lacked in
    let lacks : (n : ℕ) → n < length kits → lacked n ≡ true → end.answer ≡ Err faults.Memory = λ n less.
    lacking_one end.answer c.some_lacked-lacked.result (lacked n) c.finish-target.ensures.lacking
    (λ no. subst (λ (zs : List (Lane g.row.S.Denot g.row.V.Denot)). (slice_index_or zs n (none_there g)).lacked ≡ false) (lanes_seen g before)
    (c.some_lacked-lacked.ensures.no no n (none_there g)
    (omega (arith, less, ap (λ (zs : List (Lane g.row.S.Denot g.row.V.Denot)). length zs) (lanes_seen g before), c.pass_all-shards.ensures.lanes, many g early)))) in
    let lists = lists_of g here in
    let workers : d.workers ≡ length kits = c.requires.workers ∙ (let size : c.args.workers.kits.len ≡ length c.args.workers.kits.items = search rules in size) in
    let zero_is : IsTrue never → count ≡ 0 = λ sure. g.met.T.View.sure end.target sure in
    let told : (v : List (List Fate)) → map (λ (w : Vec Fate). w.items) c.deref-2.result.now ≡ v → IfOk end.answer (CountsFates (reported_at d v c.finish-target.ensures.counts.0) (count_of r.listing)) = λ v same.
    subst (λ (n : List (List Fate)). IfOk end.answer (CountsFates (reported_at d n c.finish-target.ensures.counts.0) (count_of r.listing))) same c.finish-target.ensures.counts.1 in
    let no_cache : IsUnshared (lent f kits c0) → c0 ≡ None = λ unshared. elim unshared [
      | inl one ↦ absurd (omega (arith, one, many_there g here))
      | inr none ↦ none
    ] in
    let no_door : c0 ≡ None → e0 ≡ None = λ none. ap (λ (x : Option Shelf). door_shelf (kind_named g.N.FolderName.kind) g.N.FolderName.opening g.N.FolderName.pairs g.N.FolderName.stores 0 x) none in
    let told_door : cached_in e0 ≡ cached_in c0 = ap cached_in (door_is g here) ∙ door_told g.S.Store l kits g.N.FolderName.opening c0 (opens g here) in
    let fresh_door : cache_faults e0 ≡ 0 = ap cache_faults (door_is g here) ∙ door_fresh g.S.Store l kits g.N.FolderName.opening c0 in
    let door_there : IsSome e0 → IsSome c0 = λ some. door_some g.S.Store l kits g.N.FolderName.opening c0 (subst (λ (y : Option Shelf). IsSome y) (door_is g here) some) in
    let ways = λ (q j : Kit g.row.S.Denot g.row.V.Denot) (cached maps : List (Map (List ℕ)))
    (quiet : (k : ℕ) → k < length kits → SourcesQuiet g.S.Store g.V.View (kind_of l) (IsListedAs l) (at_kit (lent f kits c0) k q) (at_kit (lent count outs e) k j) cached maps).
    quiet_ways g.S.Store g.V.View r d x wants kits worked outs q j f count c0 c1 e e0 w0.fates lists cached maps (λ v. v < d.wants) w1 c.in-Some.kit end.kit (g.T.View.held end.target) c.finish-target.ensures.passed.0
    (ap (λ (zs : List (Kit g.row.S.Denot g.row.V.Denot)). slice_index_or zs 0 j) (outs_are g here)) (back j)
    (λ k later. same_later worked outs (reverse c.pop.new.self.items) c.in-Some.kit end.kit (outs_are g here) (kits_back g last) k j later)
    passed.stretch quiet told_door fresh_door in
    let counts = told lists (ap (map (λ (w : Vec Fate). w.items)) c.deref-2.ensures.value) in
    assembled_by g.S.Store g.V.View r t kits never sure old.bytes (g.T.View.held end.target).bytes f count outs e end.answer c0 c1 fill
    (λ q j.
    subst (λ (b : Kit g.row.S.Denot g.row.V.Denot). AssembledBeside g.S.Store g.V.View r t old.bytes (g.T.View.held end.target).bytes (from_first q) c1 (to_kit b) end.answer) (back j)
    (c.finish-target.ensures.assembled old.bytes (given_maps e0) (from_first q) (came g here old f begun q)))
    (first_kit g here)
    (λ alike q. adds_own g.S.Store g.V.View l d x wants kits c0 c1 (added g here) alike q)
    (let q = first_kit g here in stocked_all g.S.Store g.V.View l d x wants kits c0 c1 (added g here) q c.in-Some.kit (some_one g here) (first_went g here q).1.passed.stretch.step.stores.members e passed.stretch.stocked)
    (λ why q.
    let now = stocked_all g.S.Store g.V.View l d x wants kits c0 c1 (added g here) q c.in-Some.kit (some_one g here) (first_went g here q).1.passed.stretch.step.stores.members e passed.stretch.stocked in
    let first = TakesListed g.S.Store l (slice_index_or kits 0 q).chain.stores in
    elim why [
      | inl unshared ↦
          let none = no_cache unshared in
          let end_none : e ≡ None = stays_none (TakesListed g.S.Store l (all_stores kits)) e (subst (λ (y : Option Shelf). Stocked (TakesListed g.S.Store l (all_stores kits)) y e) none now) in
          subst (λ (y : Option Shelf). Stocked first y e) (sym none) (subst (λ (y : Option Shelf). Stocked first None y) (sym end_none) tt)
      | inr alike ↦ stocked_alike g.S.Store g.V.View l d x wants kits c0 c1 (added g here) q c.in-Some.kit (some_one g here) (first_went g here q).1.passed.stretch.step.stores.members e passed.stretch.stocked alike
    ])
    (omega (arith, as_many_kits worked outs (reverse c.pop.new.self.items) c.in-Some.kit end.kit (outs_are g here) (kits_back g last), out_long g here, c.pass_all-shards.ensures.lanes, many g early))
    (λ k q j. by_worker (λ n. n < length kits → KitUsed g.S.Store g.V.View t never sure old.bytes (lent f kits c0) n (at_kit (lent f kits c0) n q) (at_kit (lent count outs e) n j) end.answer)
    (λ less.
    let h = first_went g here q in
    subst (λ (b : Kit g.row.S.Denot g.row.V.Denot). KitUsed g.S.Store g.V.View t never sure old.bytes (lent f kits c0) 0 (from_first q) (to_kit b) end.answer) (back j)
    (used_twice g.S.Store g.V.View r d x wants kits g.N.FolderName.opening c0 (opens g here) never sure old.bytes f count w0 w1 was (many_there g here) q c.in-Some.kit h.0
    (lacked 0) (subst (λ (y : Option Shelf). HasWorked g.S.Store g.V.View r t y never sure 0 (slice_index_or kits 0 q) w0.fates c.in-Some.kit h.0 (lacked 0)) (door_is g here) h.1) c1 (added g here) stood passed refl end.answer
    (λ unshared. let none = no_cache unshared in
    subst (λ (y : Option Shelf). ExactlyDealt g.S.Store g.V.View r d x wants never old.bytes 0 (sources f (slice_index_or kits 0 q).seeds.items y (slice_index_or kits 0 q).chain) (to_kit end.kit) end.answer) (sym none)
    (exact_twice g.S.Store g.V.View r d x wants never old.bytes f count w0 w1 was known e0 sure (no_door none) (slice_index_or kits 0 q) c.in-Some.kit h.0 (lacked 0) h.1 c1 stood refl passed end.answer (lacks 0 less)))))
    (λ n later less.
    let h = went g here n q j less in
    subst (λ (b : Kit g.row.S.Denot g.row.V.Denot). KitUsed g.S.Store g.V.View t never sure old.bytes (lent f kits c0) n (at_kit (lent f kits c0) n q) (to_kit b) end.answer)
    (same_later worked outs (reverse c.pop.new.self.items) c.in-Some.kit end.kit (outs_are g here) (kits_back g last) n j later)
    (used_once g.S.Store g.V.View r d x wants kits g.N.FolderName.opening c0 (opens g here) never sure old.bytes f count w0 w1 was (many_there g here) n q (slice_index_or worked n j) less h.0
    (lacked n) (subst (λ (y : Option Shelf). HasWorked g.S.Store g.V.View r t y never sure n (slice_index_or kits n q) w0.fates (slice_index_or worked n j) h.0 (lacked n)) (door_is g here) h.1) e end.answer
    (λ unshared. let none = no_cache unshared in
    subst (λ (y : Option Shelf). ExactlyDealt g.S.Store g.V.View r d x wants never old.bytes n (sources f (slice_index_or kits n q).seeds.items y (slice_index_or kits n q).chain) (to_kit (slice_index_or worked n j)) end.answer)
    (sym none)
    (exact_once g.S.Store g.V.View r d x wants never old.bytes f count w0 w1 was known e0 sure (no_door none) n (slice_index_or kits n q) (slice_index_or worked n j) h.0 (lacked n) h.1 e end.answer (lacks n less)))))
    k)
    (some_one g here)
    (λ unshared sure_target alike q j cached maps quiet one verdict.
    let none = no_door (no_cache unshared) in
    reported_so g.S.Store g.V.View r d x wants kits worked never f count w0 w1 known lists lacked workers (many_there g here) zero_is e0 sure (knew g here) alike q j cached maps (λ some. one (door_there some))
    (λ k less. none_adds g.S.Store g.V.View r d x wants kits worked never f count w0 w1 known lists lacked workers (many_there g here) zero_is e0 sure (knew g here) none (slice_index_or kits k q).chain.stores)
    (λ k less. none_faults g.S.Store g.V.View r d x wants kits worked never f count w0 w1 known lists lacked workers (many_there g here) zero_is e0 sure (knew g here) none k q j less)
    (ways q j cached maps quiet) sure_target none old.bytes was c.finish-target.ensures.counts.0 end.answer counts lacks verdict)
    (λ calm sure_target alike q j cached maps quiet one verdict.
    reported_together g.S.Store g.V.View r d x wants kits worked never f count w0 w1 known lists lacked workers (many_there g here) zero_is e0 sure (knew g here) alike q j cached maps (λ some. one (door_there some))
    (λ k less. subst (λ (y : Option Shelf). OthersAddListed g.S.Store l (slice_index_or kits k q).chain.stores y) (sym (door_is g here))
    (door_lists g.S.Store g.V.View l d x wants kits alike g.N.FolderName.opening c0 q k less))
    (λ k less. (knew g here k q j less).calm calm)
    (ways q j cached maps quiet) sure_target old.bytes was c.finish-target.ensures.counts.0 end.answer counts lacks verdict)
    (kept_so g.S.Store g.V.View r d x wants kits worked never f count w0 w1 known lists lacked workers (many_there g here) zero_is e0 sure (knew g here) old.bytes was c.finish-target.ensures.counts.0 end.answer counts)

pub unreachable-requires : goal.unreachable-requires
unreachable-requires g c =
    let before = (goal.at.unreachable-requires g c).After-some_lacked-lacked in
    let early = (goal.at.unreachable-requires g c).After-deref_mut in
    let items = c.kits_of-kits.result.0.items in
    let same : map (λ (q : Kit g.row.S.Denot g.row.V.Denot). Some q) (reverse items) ≡ map kit_of c.pass_all-shards.new.lanes = c.kits_of-kits.ensures.kits ∙ ap (map kit_of) (after g before) in
    let long : length (reverse items) ≡ length c.pass_all-shards.new.lanes = sym (length-map (reverse items) (λ (q : Kit g.row.S.Denot g.row.V.Denot). Some q)) ∙ ap length same ∙ length-map c.pass_all-shards.new.lanes kit_of in
    let some : 0 < length items = omega (arith, long, length-reverse items, c.pass_all-shards.ensures.lanes, many g early, some_kit g early) in
    absurd (true≢false (sym (c.in_default.ensures.variant.1 (let size : c.kits_of-kits.result.0.len ≡ length items = search rules in omega (arith, some, size)))))
