use Rattle.std.proofs.Common.{◌≡◌, ◌∙◌, ◌<◌, ◌++◌, ℕ, List, length, Option, Result, OnOk, Ok, Err, refl, inl, ap, sym, subst, arith}
use Rattle.std.proofs.lemmas.Bool.{true≢false}
use Rattle.std.proofs.lemmas.List.{with_items_is}
use Rattle.assembler.proofs.EconomyQuiet.{quiet_fewer}
use Rattle.assembler.proofs.EconomySettled.{settles_kept, shared_kept}
use Rattle.assembler.proofs.Entries.{first_among, listed_of}
use Rattle.assembler.proofs.Others.{takes_entry}
use Rattle.assembler.proofs.Settled.{all_as, all_kept, asks_as, first_open, fit, inside, keeps_as, last_as, listed, refused_as, same_chunk, takes_as, where_both, where_map}
use Rattle.assembler.proofs.Stepped.{stretch_none}
use Rattle.assembler.specs.Economy.{SettledShared, SettlesBy}
use Rattle.assembler.specs.Stages.{stage, task}
use Rattle.caibx_codec.specs.Listing.{Listing, count_of, id_of, kind_of, size_of}
use Rattle.chunk_sources.proofs.Cached.{stocked_wider}
use Rattle.chunk_sources.specs.AnyCaches.{seen_in}
use Rattle.chunk_sources.specs.Caches.{OthersAddOnly, CacheLacks, IsListedAs, TakesChunk, TakesWants}
use Rattle.chunk_sources.specs.Economy.{source_among, source_over}
use Rattle.chunk_sources.specs.Losses.{Had}
use Rattle.chunk_sources.specs.Sources.{IsThis, KeepsSeeds, SourcesQuiet, Telling, sources, views_of}
use Rattle.chunk_sources.specs.Wants.{IsAmong, Task, Wanted, want_chunk}
use Rattle.chunk_store.specs.declared.id.ChunkId.{ChunkId}
use Rattle.assembler.specs.declared.fault.Unsettled.{Unsettled}
use Rattle.std.specs.Vec.{with_items}
use Rattle.extract_plan.specs.Deal.{AreWants, first_of}
use Rattle.extract_plan.specs.Places.{PlacesFit}
use Rattle.extract_plan.specs.declared.seed.Seed.{Seed}
use Rattle.dsy_base.specs.Maps.{Map}
use Rattle.range_survey.specs.Fates.{settled}
use Rattle.range_survey.specs.declared.fate.Fate.{Fate}
use Rattle.assembler.proofs.settle.settle.Given.{Over}
use Rattle.assembler.proofs.settle.settle.Goals as goal
use Rattle.assembler.proofs.settle.settle.Goals.{In-Some, After-entry, After-settle_open}
use Rattle.cache_store.specs.Shelves.{Shelf}

on_ok : {P Q : Type 0} (r : Result Unit Unsettled) → (P → Q) → OnOk r P → OnOk r Q
on_ok (Ok x) f p = f p
on_ok (Err e) f p = tt

-- what is seen of a cache
abbrev see : (g : Over) → Option g.row.C.Denot → Option Shelf
see g = seen_in g.C.Cache

pub first_open-requires : goal.first_open-requires
first_open-requires g c =
    inside (task g.E.Ledger.run.listing c.args.wants.now) c.args.want c.requires.ready.wants c.requires.want c.entries-entries.result.now c.entries-entries.ensures

-- all of the want was settled before
pub returns-in_default-clause-settles : goal.returns-in_default-clause-settles
returns-in_default-clause-settles g c =
    let a = stage g.E.Ledger g.C.Cache c.args.work.now in
    record {
      only = λ i was is. absurd (true≢false (sym is ∙ was));
      had = λ tells cached maps has told i was is. absurd (true≢false (sym is ∙ was));
      asks = inl refl;
      stretch = stretch_none g.S.Store g.V.View (task g.E.Ledger.run.listing c.args.wants.now) (λ v. v ≡ c.args.want) a;
    }

pub returns-in_default-clause-exactly : goal.returns-in_default-clause-exactly
returns-in_default-clause-exactly g c = λ alone cached maps quiet.
    let t = task g.E.Ledger.run.listing c.args.wants.now in
    let m = g.E.Ledger.fates c.args.work.now.ledger in
    let views = views_of g.V.View c.args.work.now.kit.seeds.items in
    settles_kept (source_over t (settled m) views cached maps c.args.want) (count_of t.listing) m c.args.work.now.kit.chain
    (all_kept t c.args.want c.requires.ready.wants c.requires.want c.entries-entries.result.now c.entries-entries.ensures m views cached maps c.in_default.ensures)
    c.asks.ensures.below

pub returns-in_default-clause-shared : goal.returns-in_default-clause-shared
returns-in_default-clause-shared g c = λ cached maps only quiet.
    let t = task g.E.Ledger.run.listing c.args.wants.now in
    let m = g.E.Ledger.fates c.args.work.now.ledger in
    let views = views_of g.V.View c.args.work.now.kit.seeds.items in
    shared_kept (source_over t (settled m) views cached maps c.args.want) (count_of t.listing) m
    (all_kept t c.args.want c.requires.ready.wants c.requires.want c.entries-entries.result.now c.entries-entries.ensures m views cached maps c.in_default.ensures)

-- the entry is one of the want
among : (g : Over) (c : In-Some g) → IsAmong c.entries-entries.result.now c.in-Some.entry
among g c = let f = c.in-Some.ensures in (f.0, f.1, f.2)

is_listed : (g : Over) (c : In-Some g) → c.in-Some.entry < count_of g.E.Ledger.run.listing
is_listed g c =
    listed (task g.E.Ledger.run.listing c.args.wants.now) c.args.want c.requires.ready.wants c.requires.want c.entries-entries.result.now c.entries-entries.ensures
    c.in-Some.entry (among g c)

pub id-id-requires : goal.id-id-requires
id-id-requires g c = omega (arith, is_listed g c, ap count_of c.requires.listing)

-- its id and its size
named : (g : Over) (c : After-entry g) → c.id-id.result.0 ≡ id_of g.E.Ledger.run.listing c.in-Some.entry
named g c = c.id-id.ensures ∙ ap (λ (l : Listing). id_of l c.in-Some.entry) c.requires.listing

sized : (g : Over) (c : After-entry g) → c.entry.result.size ≡ size_of g.E.Ledger.run.listing c.in-Some.entry
sized g c = c.entry.ensures.size ∙ ap (λ (l : Listing). size_of l c.in-Some.entry) c.requires.listing

pub settle_open-requires-clause-entries : goal.settle_open-requires-clause-entries
settle_open-requires-clause-entries g c =
    let at = goal.at.settle_open-requires-clause-entries g c in
    all_as (task g.E.Ledger.run.listing c.args.wants.now) c.args.want c.requires.ready.wants c.requires.want c.entries-entries.result.now c.entries-entries.ensures
    c.in-Some.entry (among g at.In-Some) c.id-id.result.0 (named g at.After-entry) c.entry.result.size (sized g at.After-entry)

pub settle_open-requires-clause-places : goal.settle_open-requires-clause-places
settle_open-requires-clause-places g c =
    let at = goal.at.settle_open-requires-clause-places g c in
    subst (λ (xs : List (Seed g.row.V.Denot)). PlacesFit (kind_of g.E.Ledger.run.listing) (length xs) c.entry.result.size c.places-places.result.now) (sym c.deref_mut.ensures.value)
    (fit (task g.E.Ledger.run.listing c.args.wants.now) c.args.want c.requires.ready.wants c.requires.want c.entries-entries.result.now c.entries-entries.ensures
    c.in-Some.entry (among g at.In-Some) c.id-id.result.0 (named g at.After-entry) c.entry.result.size (sized g at.After-entry)
    (length c.args.work.now.kit.seeds.items) c.places-places.result.now c.requires.ready.places c.places-places.ensures)

pub settle_open-requires-clause-room : goal.settle_open-requires-clause-room
settle_open-requires-clause-room g c =
    let at = goal.at.settle_open-requires-clause-room g c in
    omega (arith, sized g at.After-entry, c.requires.ready.room c.in-Some.entry (is_listed g at.In-Some), ap (λ (xs : List ℕ). length xs) c.deref_mut-2.ensures.value)

pub settle_open-requires-clause-takes : goal.settle_open-requires-clause-takes
settle_open-requires-clause-takes g c =
    let at = goal.at.settle_open-requires-clause-takes g c in
    takes_entry g.C.Cache g.S.Store g.E.Ledger.run.listing c.args.work.now.kit.chain.stores (see g c.args.work.now.cache) c.requires.suits c.in-Some.entry (is_listed g at.In-Some)
    c.args.work.now.kit.chain.kind c.requires.ready.kind c.id-id.result.0 (named g at.After-entry) c.entry.result.size (sized g at.After-entry)

pub settle_open-requires-clause-may : goal.settle_open-requires-clause-may
settle_open-requires-clause-may g c = λ had j inside.
    let at = goal.at.settle_open-requires-clause-may g c in
    let t = task g.E.Ledger.run.listing c.args.wants.now in
    let w = c.args.want in
    let es = c.entries-entries.result.now in
    let old = g.E.Ledger.fates c.args.work.now.ledger in
    let seeds = c.args.work.now.kit.seeds in
    let views = views_of g.V.View seeds.items in
    let first = c.deref_mut.ensures.value in
    let is = c.entries-entries.ensures in
    let n = c.entry.result.size in
    let id = c.id-id.result.0 in
    let same = same_chunk t w c.requires.ready.wants c.requires.want es is c.in-Some.entry (among g at.In-Some) id (named g at.After-entry) n (sized g at.After-entry)
    c.places-places.result.now c.places-places.ensures in
    c.requires.may
    (λ tells cached maps has told. subst (λ (q : Wanted). Had old q views (cached ++ maps)) same
    (subst (λ (xs : List (Seed g.row.V.Denot)). Had old (record { kind = kind_of t.listing; id = id; size = n; entries = es; places = c.places-places.result.now }) (views_of g.V.View xs) (cached ++ maps)) first
    (had (subst (λ (xs : List (Seed g.row.V.Denot)). Telling g.V.View.tells (views_of g.V.View xs)) (sym first) tells) cached maps
    has told)))
    j (subst (λ (xs : List ℕ). IsAmong xs j) is inside)

pub returns-clause-settles : goal.returns-clause-settles
returns-clause-settles g c =
    let at = goal.at.returns-clause-settles g c in
    let t = task g.E.Ledger.run.listing c.args.wants.now in
    let w = c.args.want in
    let e = c.settle_open.ensures in
    let es = c.entries-entries.result.now in
    let old = g.E.Ledger.fates c.args.work.now.ledger in
    let seeds = c.args.work.now.kit.seeds in
    let views = views_of g.V.View seeds.items in
    let first = c.deref_mut.ensures.value in
    let kept = with_items_is seeds c.settle_open.new.seeds (omega (arith, c.settle_open.auto.seeds, c.deref_mut.ensures.len)) in
    let buffer = with_items_is c.args.work.now.kit.buffer c.settle_open.new.buf (omega (arith, c.settle_open.auto.buf, c.deref_mut-2.ensures.len)) in
    let is = c.entries-entries.ensures in
    let n = c.entry.result.size in
    let i = c.in-Some.entry in
    let id = c.id-id.result.0 in
    let found = among g at.In-Some in
    let named_so = named g at.After-entry in
    let sized_so = sized g at.After-entry in
    let same = same_chunk t w c.requires.ready.wants c.requires.want es is i found id named_so n sized_so c.places-places.result.now c.places-places.ensures in
    record {
      only = λ j was is_now. subst (λ (xs : List ℕ). IsAmong xs j) is (e.only j was is_now);
      had = λ tells cached maps has told j was is_now.
          subst (λ (q : Wanted). Had old q views (cached ++ maps)) same
          (subst (λ (xs : List (Seed g.row.V.Denot)). Had old (record { kind = kind_of t.listing; id = id; size = n; entries = es; places = c.places-places.result.now }) (views_of g.V.View xs) (cached ++ maps)) first
          (e.had (subst (λ (xs : List (Seed g.row.V.Denot)). Telling g.V.View.tells (views_of g.V.View xs)) (sym first) tells) cached maps has told j was is_now));
      asks = asks_as g.S.Store g.V.View old same (g.E.Ledger.faults c.args.work.now.ledger) (g.E.Ledger.faults c.settle_open.new.ledger) (see g c.args.work.now.cache) (see g c.settle_open.new.cache)
          c.args.work.now.kit.chain c.settle_open.new.chain c.deref_mut.result.now seeds.items c.settle_open.new.seeds (with_items seeds c.settle_open.new.seeds).items first (sym kept) e.asks;
      stretch = record {
        step = record {
          grows = e.grows;
          bytes = e.bytes;
          tells = e.tells;
          name = e.name;
          size = e.size;
          never_falls = e.faults;
          stores = keeps_as t w c.requires.ready.wants c.requires.want es is i found id named_so n sized_so g.S.Store c.args.work.now.kit.chain.stores c.settle_open.new.chain.stores e.stores;
          kind = e.same_kind;
          seeds = subst (λ (xs : List (Seed g.row.V.Denot)). KeepsSeeds g.V.View seeds.items xs) (sym kept) (subst (λ (xs : List (Seed g.row.V.Denot)). KeepsSeeds g.V.View xs c.settle_open.new.seeds) first e.seeds);
          room = ap (λ (xs : List ℕ). length xs) buffer ∙ omega (arith, c.settle_open.auto.buf, ap (λ (xs : List ℕ). length xs) c.deref_mut-2.ensures.value);
        };
        stocked = stocked_wider (TakesChunk g.S.Store (kind_of t.listing) id n c.args.work.now.kit.chain.stores)
            (TakesWants g.S.Store t.listing t.plan (λ v. v ≡ w) c.args.work.now.kit.chain.stores)
            (takes_as t w c.requires.ready.wants c.requires.want es is i found id named_so n sized_so g.S.Store c.args.work.now.kit.chain.stores)
            (see g c.args.work.now.cache) (see g c.settle_open.new.cache) e.stocked;
      };
    }

pub returns-clause-ends : goal.returns-clause-ends
returns-clause-ends g c =
    let at = goal.at.returns-clause-ends g c in
    let t = task g.E.Ledger.run.listing c.args.wants.now in
    let w = c.args.want in
    let e = c.settle_open.ensures in
    let es = c.entries-entries.result.now in
    let old = g.E.Ledger.fates c.args.work.now.ledger in
    let seeds = c.args.work.now.kit.seeds in
    let first = c.deref_mut.ensures.value in
    let kept = with_items_is seeds c.settle_open.new.seeds (omega (arith, c.settle_open.auto.seeds, c.deref_mut.ensures.len)) in
    let is = c.entries-entries.ensures in
    let n = c.entry.result.size in
    let i = c.in-Some.entry in
    let id = c.id-id.result in
    let found = among g at.In-Some in
    let named_so = named g at.After-entry in
    let sized_so = sized g at.After-entry in
    let f = c.in-Some.ensures in
    let same = same_chunk t w c.requires.ready.wants c.requires.want es is i found id.0 named_so n sized_so c.places-places.result.now c.places-places.ensures in
    record {
      ok = on_ok c.settle_open.result (λ all j inside. all j (subst (λ (xs : List ℕ). IsAmong xs j) (sym is) inside)) e.ok;
      lost = where_map _ _ _ c.settle_open.result
          (λ x at_x. first_open t w c.requires.ready.wants c.requires.want es is old f.0 x f.1 (f.2 ∙ sym at_x.0)
          (ap (settled old) at_x.0 ∙ f.3) f.4 (ap (λ (q : ChunkId). q.0) at_x.1 ∙ named_so ∙ ap (id_of t.listing) (sym at_x.0)))
          e.lost;
      failed = λ is_torn. let torn = e.failed is_torn in (torn.0, subst (λ (xs : List ℕ). IsAmong xs torn.0) is torn.1, torn.2);
      refused = where_both _ _ _ _ (Unit {0}) c.settle_open.result
          (λ x at_x refusing memory. refused_as g.S.Store t i n id x c.args.work.now.kit.chain.stores c.settle_open.new.chain.stores sized_so at_x.0 at_x.1 (refusing memory))
          e.lost e.refused;
      missed = where_both _ _ _ _ (Unit {0}) c.settle_open.result
          (λ x at_x lacks memory alone.
          subst (λ (k : ℕ). CacheLacks (kind_of t.listing) (id_of t.listing x.entry) k (see g c.args.work.now.cache) (see g c.settle_open.new.cache)) (sized_so ∙ ap (size_of t.listing) (sym at_x.0))
          (subst (λ (q : List ℕ). CacheLacks (kind_of t.listing) q n (see g c.args.work.now.cache) (see g c.settle_open.new.cache)) (named_so ∙ ap (id_of t.listing) (sym at_x.0)) (lacks memory alone)))
          e.lost e.missed;
      asked = where_map _ _ _ c.settle_open.result
          (λ x asked memory. last_as g.S.Store g.V.View old same (g.E.Ledger.faults c.args.work.now.ledger) (g.E.Ledger.faults c.settle_open.new.ledger) (see g c.args.work.now.cache)
          (see g c.settle_open.new.cache) c.args.work.now.kit.chain c.settle_open.new.chain c.deref_mut.result.now seeds.items c.settle_open.new.seeds
          (with_items seeds c.settle_open.new.seeds).items first (sym kept) (asked memory))
          e.asked;
      memory = e.memory;
    }

-- ---- where nothing fails

-- what holds for the seeds as they were lent, and for what was sought, holds for the kit's and for the want
module _ (g : Over) (c : After-settle_open g) (cached maps : List (Map (List ℕ))) where
  abbrev Quietly : (List ℕ → ℕ → Type 0) → List (Seed g.row.V.Denot) → List (Seed g.row.V.Denot) → Type 0
  Quietly A xs ys = SourcesQuiet g.S.Store g.V.View (kind_of g.E.Ledger.run.listing) A (sources (g.E.Ledger.faults c.args.work.now.ledger) xs (see g c.args.work.now.cache) c.args.work.now.kit.chain)
      (sources (g.E.Ledger.faults c.settle_open.new.ledger) ys (see g c.settle_open.new.cache) c.settle_open.new.chain) cached maps

  quiet_lent : (A : List ℕ → ℕ → Type 0) → Quietly A c.args.work.now.kit.seeds.items (with_items c.args.work.now.kit.seeds c.settle_open.new.seeds).items → Quietly A c.deref_mut.result.now c.settle_open.new.seeds
  quiet_lent A quiet =
      let kept = with_items_is c.args.work.now.kit.seeds c.settle_open.new.seeds (omega (arith, c.settle_open.auto.seeds, c.deref_mut.ensures.len)) in
      subst (λ (xs : List (Seed g.row.V.Denot)). Quietly A xs c.settle_open.new.seeds) (sym c.deref_mut.ensures.value)
      (subst (λ (ys : List (Seed g.row.V.Denot)). Quietly A c.args.work.now.kit.seeds.items ys) kept quiet)

  abbrev Source : Wanted → List (Seed g.row.V.Denot) → Fate
  Source q xs = source_among (settled (g.E.Ledger.fates c.args.work.now.ledger)) q (views_of g.V.View xs) cached maps

  for_want : (P : Fate → Type 0) (q now : Wanted) → q ≡ now → P (Source q c.deref_mut.result.now) → P (Source now c.args.work.now.kit.seeds.items)
  for_want P q now same has =
      subst (λ (p : Wanted). P (Source p c.args.work.now.kit.seeds.items)) same (subst (λ (xs : List (Seed g.row.V.Denot)). P (Source q xs)) c.deref_mut.ensures.value has)

-- the chunk of a want is listed
chunk_listed : (t : Task) (w : ℕ) → AreWants t.listing t.plan.wants t.plan.want_of → w < t.plan.wants → (q : Wanted) → q ≡ want_chunk t w
    → (id : List ℕ) (size : ℕ) → IsThis q.id q.size id size → IsListedAs t.listing id size
chunk_listed t w wants less q same id size is =
    let first = first_of t.plan w in
    (first, listed_of t.listing t.plan w first wants (first_among t.listing t.plan w wants less), sym (ap (λ (x : Wanted). x.id) same) ∙ sym is.0, sym (ap (λ (x : Wanted). x.size) same) ∙ sym is.1)

pub returns-clause-exactly : goal.returns-clause-exactly
returns-clause-exactly g c = λ alone cached maps quiet.
    let at = goal.at.returns-clause-exactly g c in
    let t = task g.E.Ledger.run.listing c.args.wants.now in
    let same = same_chunk t c.args.want c.requires.ready.wants c.requires.want c.entries-entries.result.now c.entries-entries.ensures c.in-Some.entry (among g at.In-Some) c.id-id.result.0
    (named g at.After-entry) c.entry.result.size (sized g at.After-entry) c.places-places.result.now c.places-places.ensures in
    for_want g at.After-settle_open cached maps
    (λ s. SettlesBy s (count_of t.listing) (g.E.Ledger.fates c.args.work.now.ledger) (g.E.Ledger.fates c.settle_open.new.ledger) c.args.work.now.kit.chain c.settle_open.new.chain c.settle_open.result)
    _ (want_chunk t c.args.want) same (c.settle_open.ensures.exactly alone cached maps (quiet_lent g at.After-settle_open cached maps (IsThis c.id-id.result.0 c.entry.result.size) (quiet_fewer g.S.Store g.V.View _ _ _ cached maps
    (chunk_listed t c.args.want c.requires.ready.wants c.requires.want _ same) quiet)))

pub returns-clause-shared : goal.returns-clause-shared
returns-clause-shared g c = λ cached maps only quiet.
    let at = goal.at.returns-clause-shared g c in
    let t = task g.E.Ledger.run.listing c.args.wants.now in
    let same = same_chunk t c.args.want c.requires.ready.wants c.requires.want c.entries-entries.result.now c.entries-entries.ensures c.in-Some.entry (among g at.In-Some) c.id-id.result.0
    (named g at.After-entry) c.entry.result.size (sized g at.After-entry) c.places-places.result.now c.places-places.ensures in
    for_want g at.After-settle_open cached maps
    (λ s. SettledShared s (count_of t.listing) (g.E.Ledger.fates c.args.work.now.ledger) (g.E.Ledger.fates c.settle_open.new.ledger) c.settle_open.result)
    _ (want_chunk t c.args.want) same
    (c.settle_open.ensures.shared cached maps
    (subst (λ (q : Wanted). OthersAddOnly q.kind q.id q.size (see g c.args.work.now.cache) cached maps) (sym same) only)
    (quiet_lent g at.After-settle_open cached maps (IsThis c.id-id.result.0 c.entry.result.size) (quiet_fewer g.S.Store g.V.View _ _ _ cached maps
    (chunk_listed t c.args.want c.requires.ready.wants c.requires.want _ same) quiet)))
