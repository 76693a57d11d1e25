-- What it takes that no source gave a chunk, over a longer stretch: what went before, and what came after.
use Rattle.std.proofs.Common.{◌≡◌, ◌≢◌, ℕ, ◌<◌, ◌≤◌, List, Bool, Option, Result, Err, set, true, ap, slice_index, inl, inr, sym, ◌∙◌, subst, arith}
use Rattle.std.proofs.lemmas.List.Elements.{All-weaker}
use Rattle.cache_store.specs.Shelves.{Shelf}
use Rattle.assembler.proofs.Entries.{among_of, first_among, ids_same, listed_of}
use Rattle.std.proofs.lemmas.Bool.{true≢false}
use Rattle.assembler.proofs.Filled.{rose_still, settled_on}
use Rattle.assembler.proofs.Passed.{OneMore}
use Rattle.assembler.proofs.Stepped.{alone_since}
use Rattle.assembler.proofs.Tried.{is_tried}
use Rattle.range_ledger.specs.Fills.{Grows}
use Rattle.assembler.specs.Losses.{IsFirstOpen, Where, lost_want}
use Rattle.assembler.specs.Passes.{Loses, RefusedOnce, want_at}
use Rattle.assembler.specs.Settling.{HasEnded}
use Rattle.assembler.specs.Stages.{Stage, Stretch, from}
use Rattle.assembler.specs.declared.fault.Lost.{Lost}
use Rattle.assembler.specs.declared.fault.Unsettled.{Unsettled}
use Rattle.assembler.specs.declared.fault.Unsettled.TheVariants as unsettled
use Rattle.caibx_codec.specs.Asks.{IsListedGet}
use Rattle.caibx_codec.specs.Listing.{count_of, id_of, kind_of, size_of}
use Rattle.chunk_sources.proofs.Cached.{stocked_falls, stocked_gave, stocked_was}
use Rattle.chunk_sources.specs.Caches.{CacheLacks, IsAlone, Stocked, TakesWants, cache_faults}
use Rattle.chunk_sources.specs.Losses.{AskedLast, CopiesFailed, RefusedBy}
use Rattle.chunk_sources.specs.Sources.{HeldAt, KeepsSeeds, SeedsFailed, counts_of, views_of}
use Rattle.chunk_sources.specs.Wants.{Task, want_chunk}
use Rattle.chunk_store.specs.declared.store.Store.{Ghosts as StoreWords}
use Rattle.dsy_base.proofs.Counts.{rose_later}
use Rattle.dsy_base.specs.Bytes.{Held}
use Rattle.dsy_base.specs.Counts.{Rose}
use Rattle.dsy_base.specs.declared.view.View.{Ghosts as ViewWords}
use Rattle.extract_plan.specs.Deal.{AreWants, first_of, of_want, want_id}
use Rattle.extract_plan.specs.Places.{places_at}
use Rattle.extract_plan.specs.declared.seed.Seed.{Seed}
use Rattle.extract_plan.specs.declared.seed.SeedPlace.{SeedPlace}
use Rattle.range_survey.specs.declared.fate.Fate.{Fate}
use Rattle.store_chain.proofs.Kept.{kept_on, kept_still}
use Rattle.store_chain.specs.Chains.{KeepsStores}
use Rattle.store_chain.specs.Faults.{NoneFalls}
use Rattle.store_chain.specs.declared.refused.Refused.TheVariants as refused

-- what a refusal says of the want's entries
pub torn_of : (P : Lost → Type 0) (F : Type 0) (r : Result Unit Unsettled) (e : Unsettled) → r ≡ Err e → e ≡ unsettled.TargetFault → Where P F r → F
torn_of P F r e is why says = subst (Where P F) (is ∙ ap (λ y. Err y) why) says

pub lost_of : (P : Lost → Type 0) (F : Type 0) (r : Result Unit Unsettled) (e : Unsettled) (x : Lost) → r ≡ Err e → e ≡ unsettled.Lost x → Where P F r → P x
lost_of P F r e x is why says = subst (Where P F) (is ∙ ap (λ y. Err y) why) says

-- seeds that failed have failed over a longer stretch too
failed_wider : (views : List (Option Held)) (places : List SeedPlace) (id : List ℕ) (f0 f1 f2 f3 : List ℕ) → NoneFalls f0 f1 → NoneFalls f2 f3
    → SeedsFailed views places id f1 f2 → SeedsFailed views places id f0 f3
failed_wider views places id f0 f1 f2 f3 before after failed =
    All-weaker
    (λ (p : SeedPlace). HeldAt views p id → Rose (slice_index f1 p.seed) (slice_index f2 p.seed))
    (λ (p : SeedPlace). HeldAt views p id → Rose (slice_index f0 p.seed) (slice_index f3 p.seed))
    (λ p rose has. rose_later (slice_index f0 p.seed) (slice_index f1 p.seed) (slice_index f3 p.seed) (before p.seed)
    (rose_still (slice_index f1 p.seed) (slice_index f2 p.seed) (slice_index f3 p.seed) (after p.seed) (rose has)))
    places failed

-- seeds that failed have failed over all that went before too
pub seeds_since : {V : Type 0} (view : ViewWords V) (s0 s1 s2 : List (Seed V)) (places : List SeedPlace) (id : List ℕ) → KeepsSeeds view s0 s1
    → SeedsFailed (views_of view s1) places id (counts_of view s1) (counts_of view s2) → SeedsFailed (views_of view s0) places id (counts_of view s0) (counts_of view s2)
seeds_since view s0 s1 s2 places id kept failed =
    subst (λ v. SeedsFailed v places id (counts_of view s0) (counts_of view s2)) kept.held
    (failed_wider (views_of view s1) places id (counts_of view s0) (counts_of view s1) (counts_of view s2) (counts_of view s2) kept.never_fall (λ s. omega arith) failed)

copies_wider : (m0 m1 : List Fate) (es : List ℕ) (a b c e : ℕ) → Grows m0 m1 → a ≤ b → c ≤ e → CopiesFailed m1 es b c → CopiesFailed m0 es a e
copies_wider m0 m1 es a b c e grows before after failed = λ i among is.
    rose_later a b e before (rose_still b c e after (failed i among (settled_on m0 m1 grows i is)))

module _ {S V : Type 0} (store : StoreWords S) (view : ViewWords V) (t : Task) where
  abbrev Over : (ℕ → Type 0) → Stage S V → Stage S V → Type 0
  Over A a b = Stretch store view t A a b

  abbrev AreLost : Stage S V → Stage S V → Lost → Type 0
  AreLost a b lost = Loses store view t a b lost

  -- a cache that lacks the chunk of an entry lacks it while other wants are settled
  lacks_later : (w : ℕ) (lost : Lost) (stores : List S) (e f h : Option Shelf) → AreWants t.listing t.plan.wants t.plan.want_of → w < t.plan.wants → lost.entry < count_of t.listing
      → want_at t.plan lost.entry ≢ w → Stocked (TakesWants store t.listing t.plan (λ v. v ≡ w) stores) f h
      → CacheLacks (kind_of t.listing) (id_of t.listing lost.entry) (size_of t.listing lost.entry) e f
      → CacheLacks (kind_of t.listing) (id_of t.listing lost.entry) (size_of t.listing lost.entry) e h
  lacks_later w lost stores e f h wants below inside apart stocked was = λ now tells gives.
      let l = t.listing in
      let d = t.plan in
      let T = TakesWants store l d (λ v. v ≡ w) stores in
      let before = stocked_was T f h now stocked tells in
      elim (stocked_gave T (kind_of l) (id_of l lost.entry) (size_of l lost.entry) f h before.0 now stocked before.1 tells gives) [
        | inl gave ↦ rose_still (cache_faults e) (cache_faults f) (cache_faults h) (stocked_falls T f h stocked) (was before.0 before.1 gave)
        | inr (b, takes, right) ↦
            let first = first_of d takes.0 in
            let other : takes.0 < d.wants = omega (arith, below, takes.1) in
            let among = first_among l d takes.0 wants other in
            let like = (wants.alike lost.entry first inside (listed_of l d takes.0 first wants among)).1 (takes.2.0, sym right.sized ∙ takes.2.1.sized) in
            absurd (apart (like ∙ (among_of d takes.0 first among).1 ∙ takes.1))
      ]

  -- it lacks it over all that went before too
  pub lacks_since : (A : ℕ → Type 0) (stores : List S) (id : List ℕ) (size : ℕ) (e f h : Option Shelf) → Stocked (TakesWants store t.listing t.plan A stores) e f
      → CacheLacks (kind_of t.listing) id size f h → CacheLacks (kind_of t.listing) id size e h
  lacks_since A stores id size e f h stocked lacks = λ now tells gives.
      rose_later (cache_faults e) (cache_faults f) (cache_faults h) (stocked_falls (TakesWants store t.listing t.plan A stores) e f stocked) (lacks now tells gives)

  -- what is lost stays lost while another want is settled
  pub lost_later : (a b c : Stage S V) (w : ℕ) (lost : Lost) → AreWants t.listing t.plan.wants t.plan.want_of → w < t.plan.wants → want_at t.plan lost.entry ≢ w
      → Over (λ v. v ≡ w) b c → AreLost a b lost → AreLost a c lost
  lost_later a b c w lost wants below apart over was = record {
    cache = lacks_later w lost b.kit.chain.stores a.cache b.cache c.cache wants below was.listed apart over.stocked was.cache;
    listed = was.listed;
    id_is = was.id_is;
    copies = λ n among is. rose_still a.faults b.faults c.faults over.step.never_falls (was.copies n among is);
    seeds = failed_wider (views_of view a.kit.seeds.items) (places_at t.places (want_at t.plan lost.entry)) lost.id.0 (counts_of view a.kit.seeds.items)
        (counts_of view a.kit.seeds.items) (counts_of view b.kit.seeds.items) (counts_of view c.kit.seeds.items)
        (λ s. omega arith) over.step.seeds.never_fall was.seeds;
    stores = record {
      before = was.stores.before;
      after = was.stores.after;
      until = was.stores.until;
      refused = was.stores.refused;
      since = kept_on store (IsListedGet t.listing) was.stores.after b.kit.chain.stores c.kit.chain.stores was.stores.since over.step.stores;
    };
    had_memory = was.had_memory;
  }

  -- the stores refused it over all that went before too
  pub refused_since : (lost : Lost) (s0 s1 s2 : List S) → KeepsStores store (IsListedGet t.listing) s0 s1 → RefusedOnce store view t lost s1 s2 → RefusedOnce store view t lost s0 s2
  refused_since lost s0 s1 s2 kept was = record {
    before = was.before;
    after = was.after;
    until = kept_on store (IsListedGet t.listing) s0 s1 was.before kept was.until;
    refused = was.refused;
    since = was.since;
  }

  -- what is lost is lost over all that went before too
  pub lost_since : (A : ℕ → Type 0) (a b c : Stage S V) (lost : Lost) → Over A a b → AreLost b c lost → AreLost a c lost
  lost_since A a b c lost over was = record {
    listed = was.listed;
    id_is = was.id_is;
    copies = copies_wider a.fates b.fates (of_want t.plan (want_at t.plan lost.entry)) a.faults b.faults c.faults c.faults over.step.grows over.step.never_falls
        (omega arith) was.copies;
    cache = lacks_since A a.kit.chain.stores (id_of t.listing lost.entry) (size_of t.listing lost.entry) a.cache b.cache c.cache over.stocked was.cache;
    seeds = seeds_since view a.kit.seeds.items b.kit.seeds.items c.kit.seeds.items (places_at t.places (want_at t.plan lost.entry)) lost.id.0 over.step.seeds was.seeds;
    stores = refused_since lost a.kit.chain.stores b.kit.chain.stores c.kit.chain.stores over.step.stores was.stores;
    had_memory = was.had_memory;
  }

  -- the first open entry of a want that the stores refused is lost
  pub lost_now : (a b : Stage S V) (w : ℕ) (lost : Lost) → AreWants t.listing t.plan.wants t.plan.want_of → w < t.plan.wants → Over (λ v. v ≡ w) a b
      → IsFirstOpen t.listing a.fates (of_want t.plan w) lost
      → RefusedBy store (lost_want t.listing lost) a.kit.chain.stores b.kit.chain.stores lost.refused
      → AskedLast store view (want_chunk t w) a.fates (from a) (from b)
      → CacheLacks (kind_of t.listing) (id_of t.listing lost.entry) (size_of t.listing lost.entry) a.cache b.cache
      → lost.refused ≢ refused.Memory → AreLost a b lost
  lost_now a b w lost wants below over first refusing last lacks had_memory =
      let l = t.listing in
      let d = t.plan in
      let views = views_of view a.kit.seeds.items in
      let f0 = counts_of view a.kit.seeds.items in
      let f1 = counts_of view b.kit.seeds.items in
      let is_of : want_at d lost.entry ≡ w = (among_of d w lost.entry first.among).1 in
      let id : want_id l d w ≡ lost.id.0 = (ids_same l d w (first_of d w) lost.entry wants (first_among l d w wants below) first.among).0 ∙ sym first.id_is in
      record {
        listed = listed_of l d w lost.entry wants first.among;
        id_is = first.id_is;
        copies = subst (λ v. CopiesFailed a.fates (of_want d v) a.faults b.faults) (sym is_of) last.copies;
        cache = lacks;
        seeds = subst (λ q. SeedsFailed views (places_at t.places (want_at d lost.entry)) q f0 f1) id
            (subst (λ v. SeedsFailed views (places_at t.places v) (want_id l d w) f0 f1) (sym is_of) last.seeds);
        stores = record {
          before = a.kit.chain.stores;
          after = b.kit.chain.stores;
          until = kept_still store (IsListedGet l) a.kit.chain.stores;
          refused = refusing;
          since = kept_still store (IsListedGet l) b.kit.chain.stores;
        };
        had_memory = had_memory;
      }

  -- so it is where a call for a want has ended so
  pub lost_ended : (a b : Stage S V) (w : ℕ) (lost : Lost) (r : Result Unit Unsettled) (e : Unsettled) → AreWants t.listing t.plan.wants t.plan.want_of → w < t.plan.wants → Over (λ v. v ≡ w) a b
      → IsAlone a.cache → HasEnded store view t w a b r → r ≡ Err e → e ≡ unsettled.Lost lost → lost.refused ≢ refused.Memory → AreLost a b lost
  lost_ended a b w lost r e wants below over alone ended is why had_memory =
      lost_now a b w lost wants below over (lost_of _ _ r e lost is why ended.lost) (lost_of _ _ r e lost is why ended.refused had_memory) (lost_of _ _ r e lost is why ended.asked had_memory)
      (lost_of _ _ r e lost is why ended.missed had_memory alone) had_memory

  -- ---- over wants that were tried

  -- so it is with a want that was tried
  abbrev pub LostTried : List Bool → Stage S V → Stage S V → Lost → Type 0
  LostTried tried a b lost = AreLost a b lost × (is_tried tried (want_at t.plan lost.entry) ≡ true)

  module _ (tried : List Bool) (a b c : Stage S V) (w : ℕ) (wants : AreWants t.listing t.plan.wants t.plan.want_of)
      (more : OneMore (is_tried tried) (is_tried (set tried w true)) w t.plan.wants) (next : Over (λ v. v ≡ w) b c) where
    -- what was lost is lost, and so is what the stores refused now
    pub still_lost : (lost : Lost) → LostTried tried a b lost → LostTried (set tried w true) a c lost
    still_lost lost was =
        let apart : want_at t.plan lost.entry ≢ w = λ same. true≢false (sym was.1 ∙ ap (is_tried tried) same ∙ more.wasnt) in (
          lost_later a b c w lost wants more.below apart next was.0,
          more.others (want_at t.plan lost.entry) apart ∙ was.1,
        )

    pub newly_lost : (A : ℕ → Type 0) (lost : Lost) (r : Result Unit Unsettled) (e : Unsettled) → Over A a b → IsAlone a.cache → HasEnded store view t w b c r → r ≡ Err e → e ≡ unsettled.Lost lost
        → lost.refused ≢ refused.Memory → LostTried (set tried w true) a c lost
    newly_lost A lost r e first alone ended is why had_memory =
        let first_of_all : IsFirstOpen t.listing b.fates (of_want t.plan w) lost = lost_of _ _ r e lost is why ended.lost in (
          lost_since A a b c lost first (lost_ended b c w lost r e wants more.below next (alone_since store view t A a b first alone) ended is why had_memory),
          ap (is_tried (set tried w true)) (among_of t.plan w lost.entry first_of_all.among).1 ∙ more.now,
        )
