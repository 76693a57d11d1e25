-- What a pass has cost and settled so far, where nothing fails: over the wants that are done.
use Rattle.std.proofs.Common.{◌≡◌, ◌≢◌, ◌⊎◌, ℕ, ◌+◌, ◌<◌, ◌^◌, List, length, map, Bool, Option, Some, Result, OnOk, Ok, Err, true, false, if◌then◌else◌, refl, sym, ap, subst, ◌∙◌, inl, inr, arith}
use Rattle.std.proofs.lemmas.Bool.{cases_Bool, cases_eq, true≢false}
use Rattle.assembler.proofs.EconomyQuiet.{nothing_first, nothing_next}
use Rattle.assembler.proofs.EconomySources.{source_kept, source_same}
use Rattle.assembler.proofs.EconomySums.{raised_on, sum_none, sum_one, sum_same}
use Rattle.assembler.proofs.Adding.{adds_only}
use Rattle.assembler.proofs.Entries.{among, among_of, first_among, listed_of}
use Rattle.assembler.proofs.Filled.{open_before, settled_on}
use Rattle.assembler.proofs.Passed.{OneMore}
use Rattle.assembler.proofs.Stepped.{alone_since}
use Rattle.assembler.proofs.Stocking.{give_same}
use Rattle.assembler.proofs.Tallies.{tallied_none, tallied_on}
use Rattle.assembler.specs.Economy.{HadMemory, PassedBy, SettledBy, SettledShared, SettlesBy, Tallied, TalliedBy, TalliedShared}
use Rattle.assembler.specs.Passes.{WhereQuiet, source_at, want_at}
use Rattle.assembler.specs.Settling.{Settles}
use Rattle.assembler.specs.Stages.{Stage, Stretch, from}
use Rattle.assembler.specs.declared.fault.Unsettled.{Unsettled}
use Rattle.assembler.specs.declared.fault.Unsettled.TheVariants as unsettled
use Rattle.caibx_codec.specs.Listing.{count_of, kind_of, size_of}
use Rattle.chunk_sources.proofs.Cached.{stocked_told}
use Rattle.chunk_sources.proofs.Origins.{same_raised, stores_decide}
use Rattle.chunk_sources.specs.Caches.{OthersAddListed, OthersAddOnly, HaveOneSize, IsAlone, TakesWants, cached_in, IsListedAs}
use Rattle.chunk_sources.specs.Economy.{as_upstream, pass_asks, source_if, source_over, stores_give, sum_below}
use Rattle.chunk_sources.specs.Sources.{SourcesQuiet, views_of}
use Rattle.chunk_sources.specs.Wants.{IsAmong, Task}
use Rattle.chunk_store.specs.declared.store.Store.{Ghosts as StoreWords}
use Rattle.chunk_store.specs.Members.{maps_of}
use Rattle.dsy_base.specs.Bytes.{Held}
use Rattle.dsy_base.specs.Counts.{raised}
use Rattle.dsy_base.specs.Maps.{Map}
use Rattle.dsy_base.specs.declared.view.View.{Ghosts as ViewWords}
use Rattle.extract_plan.specs.Deal.{AreWants, first_of, of_want, want_id}
use Rattle.range_survey.specs.Fates.{settled}
use Rattle.range_survey.specs.Reports.{one_if, tally}
use Rattle.range_survey.specs.declared.fate.Fate.{Fate}
use Rattle.range_survey.specs.declared.fate.Fate.TheVariants as fate
use Rattle.store_chain.specs.Chains.{Chained}

-- ---- sums over the wants that are done

module _ (done later : ℕ → Bool) (w n : ℕ) (below : w < n) (wasnt : done w ≡ false) (is : later w ≡ true) (others : (v : ℕ) → v ≢ w → later v ≡ done v) where
  -- where w is done too
  sum_more : (f : Fate → ℕ) (source : ℕ → Fate) → f fate.Kept ≡ 0 → sum_below (λ v. f (source_if done source v)) n + f (source w) ≡ sum_below (λ v. f (source_if later source v)) n
  sum_more f source none =
      let here : f (source_if later source w) ≡ f (source w) = ap (λ b. f (if b then source w else fate.Kept)) is in
      let was : f (source_if done source w) ≡ 0 = ap (λ b. f (if b then source w else fate.Kept)) wasnt ∙ none in
      let one = sum_one (λ v. f (source_if done source v)) (λ v. f (source_if later source v)) w n (λ v apart. ap (λ b. f (if b then source v else fate.Kept)) (others v apart)) was below in
      omega (arith, here, one)

  tallied_more : (source : ℕ → Fate) (count : ℕ) (m0 m1 m2 : List Fate) → TalliedBy (source_if done source) n count m0 m1
      → Tallied (one_if fate.Seeded (source w)) (one_if fate.Cached (source w)) (one_if fate.Fetched (source w)) count m1 m2 → TalliedBy (source_if later source) n count m0 m2
  tallied_more source count m0 m1 m2 before tallied =
      let was = source_if done source in
      let both = tallied_on (sum_below (λ v. one_if fate.Seeded (was v)) n) (sum_below (λ v. one_if fate.Cached (was v)) n) (sum_below (λ v. one_if fate.Fetched (was v)) n)
      (one_if fate.Seeded (source w)) (one_if fate.Cached (source w)) (one_if fate.Fetched (source w)) count m0 m1 m2 before tallied in
      record {
        from_seeds = both.from_seeds ∙ ap (λ k. tally fate.Seeded m0 count + k) (sum_more (one_if fate.Seeded) source refl);
        from_cache = both.from_cache ∙ ap (λ k. tally fate.Cached m0 count + k) (sum_more (one_if fate.Cached) source refl);
        from_stores = both.from_stores ∙ ap (λ k. tally fate.Fetched m0 count + k) (sum_more (one_if fate.Fetched) source refl);
      }

  passed_on : {S : Type 0} (source : ℕ → Fate) (count : ℕ) (m0 m1 m2 : List Fate) (c0 c1 c2 : Chained S) → PassedBy (source_if done source) n count m0 m1 c0 c1
      → c2.asks ≡ raised c1.asks (pass_asks (source w)) → Tallied (one_if fate.Seeded (source w)) (one_if fate.Cached (source w)) (one_if fate.Fetched (source w)) count m1 m2
      → PassedBy (source_if later source) n count m0 m2 c0 c2
  passed_on source count m0 m1 m2 c0 c1 c2 before calls tallied =
      let was = source_if done source in
      record {
        calls = calls ∙ ap (λ k. raised k (pass_asks (source w))) before.calls
            ∙ raised_on c0.asks (sum_below (λ v. pass_asks (was v)) n) (pass_asks (source w))
            ∙ ap (raised c0.asks) (sum_more pass_asks source refl);
        tallied = tallied_more source count m0 m1 m2 before.tallied tallied;
      }

-- where none is done nothing was taken
module _ (done : ℕ → Bool) (source : ℕ → Fate) (n : ℕ) (none : (w : ℕ) → done w ≡ false) where
  no_sum : (f : Fate → ℕ) → f fate.Kept ≡ 0 → sum_below (λ w. f (source_if done source w)) n ≡ 0
  no_sum f is = sum_none (λ w. f (source_if done source w)) n (λ w less. ap (λ b. f (if b then source w else fate.Kept)) (none w) ∙ is)

  tallied_nothing : (count : ℕ) (m : List Fate) → TalliedBy (source_if done source) n count m m
  tallied_nothing count m = record {
    from_seeds = omega (arith, no_sum (one_if fate.Seeded) refl);
    from_cache = omega (arith, no_sum (one_if fate.Cached) refl);
    from_stores = omega (arith, no_sum (one_if fate.Fetched) refl);
  }

  passed_nothing : {S : Type 0} (count : ℕ) (m : List Fate) (c : Chained S) → c.asks < 2 ^ 64 → PassedBy (source_if done source) n count m m c c
  passed_nothing count m c below = record {
    calls = same_raised c.asks below ∙ ap (raised c.asks) (sym (no_sum pass_asks refl));
    tallied = tallied_nothing count m;
  }

-- sources that are the same below n cost the same
module _ (source other : ℕ → Fate) (n : ℕ) (here : (w : ℕ) → w < n → source w ≡ other w) where
  same_sum : (f : Fate → ℕ) → sum_below (λ w. f (source w)) n ≡ sum_below (λ w. f (other w)) n
  same_sum f = sum_same (λ w. f (source w)) (λ w. f (other w)) n (λ w less. ap f (here w less))

  pub tallied_same : (count : ℕ) (m0 m1 : List Fate) → TalliedBy source n count m0 m1 → TalliedBy other n count m0 m1
  tallied_same count m0 m1 tallied = record {
    from_seeds = tallied.from_seeds ∙ ap (λ k. tally fate.Seeded m0 count + k) (same_sum (one_if fate.Seeded));
    from_cache = tallied.from_cache ∙ ap (λ k. tally fate.Cached m0 count + k) (same_sum (one_if fate.Cached));
    from_stores = tallied.from_stores ∙ ap (λ k. tally fate.Fetched m0 count + k) (same_sum (one_if fate.Fetched));
  }

pub passed_as : {S : Type 0} (source other : ℕ → Fate) (n count : ℕ) (m0 m1 : List Fate) (c0 c1 : Chained S) → ((w : ℕ) → w < n → source w ≡ other w)
    → PassedBy source n count m0 m1 c0 c1 → PassedBy other n count m0 m1 c0 c1
passed_as source other n count m0 m1 c0 c1 here passed = record {
  calls = passed.calls ∙ ap (raised c0.asks) (same_sum source other n here pass_asks);
  tallied = tallied_same source other n here count m0 m1 passed.tallied;
}

-- all that cost anything are done
all_done : (done : ℕ → Bool) (source : ℕ → Fate) (w : ℕ) → (done w ≡ true) ⊎ (source w ≡ fate.Kept) → source_if done source w ≡ source w
all_done done source w (inl is) = ap (λ b. if b then source w else fate.Kept) is
all_done done source w (inr kept) = elim (cases_Bool (done w)) [
  | inl is ↦ ap (λ b. if b then source w else fate.Kept) is
  | inr isnt ↦ ap (λ b. if b then source w else fate.Kept) isnt ∙ sym kept
]

-- ---- one want

tallied_want : (source : Fate) (n : ℕ) (m0 m1 : List Fate) (r : Result Unit Unsettled) → HadMemory r → SettledBy source n m0 m1 r
    → Tallied (one_if fate.Seeded source) (one_if fate.Cached source) (one_if fate.Fetched source) n m0 m1
tallied_want source n m0 m1 (Ok u) memory settles = settles
tallied_want source n m0 m1 (Err (unsettled.Lost lost)) memory (same, inl lacked) = absurd (memory lost refl lacked)
tallied_want source n m0 m1 (Err (unsettled.Lost lost)) memory (same, inr none) =
    subst (λ (m : List Fate). Tallied (one_if fate.Seeded source) (one_if fate.Cached source) (one_if fate.Fetched source) n m0 m) (sym same)
    (subst (λ (s : Fate). Tallied (one_if fate.Seeded s) (one_if fate.Cached s) (one_if fate.Fetched s) n m0 m0) (sym none) (tallied_none n m0))
tallied_want source n m0 m1 (Err unsettled.TargetFault) memory settles = absurd settles

left_want : (source : Fate) (n : ℕ) (m0 m1 m : List Fate) (es : List ℕ) (r : Result Unit Unsettled) → HadMemory r → SettledBy source n m0 m1 r
    → OnOk r ((i : ℕ) → IsAmong es i → settled m i ≡ true) → (i : ℕ) → IsAmong es i → settled m i ≡ false → source ≡ fate.Open
left_want source n m0 m1 m es (Ok u) memory settles all i among isnt = absurd (true≢false (sym (all i among) ∙ isnt))
left_want source n m0 m1 m es (Err (unsettled.Lost lost)) memory (same, inl lacked) all i among isnt = absurd (memory lost refl lacked)
left_want source n m0 m1 m es (Err (unsettled.Lost lost)) memory (same, inr none) all i among isnt = none
left_want source n m0 m1 m es (Err unsettled.TargetFault) memory settles all i among isnt = absurd settles

-- none with cache and stores as one is none
open_upstream : (x : Fate) → as_upstream x ≡ fate.Open → x ≡ fate.Open
open_upstream fate.Open is = refl
open_upstream fate.Kept is = absurd (cc)
open_upstream fate.Copied is = absurd (cc)
open_upstream fate.Seeded is = absurd (cc)
open_upstream fate.Cached is = absurd (cc)
open_upstream fate.Fetched is = absurd (cc)

-- ---- the pass

module _ {S V : Type 0} (store : StoreWords S) (view : ViewWords V) (t : Task) where
  abbrev Nothing : Stage S V → Stage S V → List (Map (List ℕ)) → List (Map (List ℕ)) → Type 0
  Nothing a b cached maps = SourcesQuiet store view (kind_of t.listing) (IsListedAs t.listing) (from a) (from b) cached maps

  -- from the stage a on
  pub record Paid (done : ℕ → Bool) (a b : Stage S V) : Type 0 where
    pub untouched : (i : ℕ) → done (want_at t.plan i) ≡ false → settled b.fates i ≡ settled a.fates i
    pub passed : IsAlone a.cache → WhereQuiet store view t.listing (from a) (from b) (λ cached maps.
        PassedBy (source_if done (source_at view t a cached maps)) t.plan.wants (count_of t.listing) a.fates b.fates a.kit.chain b.kit.chain)
    pub shared : OthersAddListed store t.listing a.kit.chain.stores a.cache → WhereQuiet store view t.listing (from a) (from b) (λ cached maps.
        TalliedShared done (source_at view t a cached maps) t.plan.wants (count_of t.listing) a.fates b.fates)
    pub left : OthersAddListed store t.listing a.kit.chain.stores a.cache → WhereQuiet store view t.listing (from a) (from b) (λ cached maps. (i : ℕ) → i < count_of t.listing
        → done (want_at t.plan i) ≡ true → settled b.fates i ≡ false → source_at view t a cached maps (want_at t.plan i) ≡ fate.Open)

  pub paid_none : (done : ℕ → Bool) (a : Stage S V) → ((w : ℕ) → done w ≡ false) → a.kit.chain.asks < 2 ^ 64 → Paid done a a
  paid_none done a none bound = record {
    untouched = λ i isnt. refl;
    passed = λ alone cached maps nothing one. passed_nothing done (source_at view t a cached maps) t.plan.wants none (count_of t.listing) a.fates a.kit.chain bound;
    shared = λ adds cached maps nothing one. tallied_nothing done (λ w. as_upstream (source_at view t a cached maps w)) t.plan.wants none (count_of t.listing) (map as_upstream a.fates);
    left = λ adds cached maps nothing one i inside is isnt. absurd (true≢false (sym is ∙ none (want_at t.plan i)));
  }

  module _ (a b c : Stage S V) (wants : AreWants t.listing t.plan.wants t.plan.want_of) (w : ℕ) (done later : ℕ → Bool) (more : OneMore done later w t.plan.wants)
      (first : Stretch store view t (λ v. done v ≡ true) a b) (next : Settles store view t w b c) (before : Paid done a b) where
    -- the entries of other wants
    others_stay : (y : ℕ) → want_at t.plan y ≢ w → settled c.fates y ≡ settled b.fates y
    others_stay y apart = elim (cases_Bool (settled b.fates y)) [
      | inl was ↦ settled_on b.fates c.fates next.stretch.step.grows y was ∙ sym was
      | inr wasnt ↦ elim (cases_Bool (settled c.fates y)) [
        | inl is ↦ absurd (apart (among_of t.plan w y (next.only y wasnt is)).1)
        | inr isnt ↦ isnt ∙ sym wasnt
      ]
    ]

    apart_from : (v : ℕ) → later v ≡ false → v ≢ w
    apart_from v isnt same = true≢false (sym more.now ∙ ap later (sym same) ∙ isnt)

    -- the cache gives its chunk as at first
    give_still : (was now maps : List (Map (List ℕ))) → cached_in a.cache ≡ Some was → cached_in b.cache ≡ Some now → maps_of store.members a.kit.chain.stores ≡ Some maps
        → HaveOneSize t.listing a.cache was maps → stores_give (kind_of t.listing) (want_id t.listing t.plan w) (size_of t.listing (first_of t.plan w)) now
        ≡ stores_give (kind_of t.listing) (want_id t.listing t.plan w) (size_of t.listing (first_of t.plan w)) was
    give_still was now maps told tells held one =
        give_same store t.listing t.plan (λ v. done v ≡ true) a.kit.chain.stores a.cache b.cache was now maps first.stocked told tells held wants more.within one w more.below
        (λ so. true≢false (sym so ∙ more.wasnt))

    -- so its source is what it was at first
    source_still : (was now maps : List (Map (List ℕ))) → cached_in a.cache ≡ Some was → cached_in b.cache ≡ Some now → maps_of store.members a.kit.chain.stores ≡ Some maps
        → HaveOneSize t.listing a.cache was maps → source_at view t b now maps w ≡ source_at view t a was maps w
    source_still was now maps told tells held one =
        ap (λ (views : List (Option Held)). source_over t (settled b.fates) views now maps w) first.step.seeds.held
        ∙ source_same t (views_of view a.kit.seeds.items) maps w now was (settled b.fates) (settled a.fates)
        (λ y among. before.untouched y (ap done (among_of t.plan w y among).1 ∙ more.wasnt)) (give_still was now maps told tells held one)

    -- and others have added nothing else for it
    only_still : OthersAddListed store t.listing a.kit.chain.stores a.cache → (was now maps : List (Map (List ℕ))) → cached_in a.cache ≡ Some was → cached_in b.cache ≡ Some now
        → maps_of store.members a.kit.chain.stores ≡ Some maps → HaveOneSize t.listing a.cache was maps
        → OthersAddOnly (kind_of t.listing) (want_id t.listing t.plan w) (size_of t.listing (first_of t.plan w)) b.cache now maps
    only_still adds was now maps told tells held one =
        let l = t.listing in
        let id = want_id l t.plan w in
        let size = size_of l (first_of t.plan w) in
        let decides = stores_decide (kind_of l) id size in
        adds_only store l a.kit.chain.stores maps held id size (first_of t.plan w, listed_of l t.plan w (first_of t.plan w) wants (first_among l t.plan w wants more.below), refl, refl)
        (TakesWants store l t.plan (λ v. done v ≡ true) a.kit.chain.stores) a.cache b.cache first.stocked adds was now one
        (λ gives. (decides was).0 (sym (give_still was now maps told tells held one) ∙ (decides now).1 gives))

    pub untouched_more : (y : ℕ) → later (want_at t.plan y) ≡ false → settled c.fates y ≡ settled a.fates y
    untouched_more y isnt =
        let apart = apart_from (want_at t.plan y) isnt in
        others_stay y apart ∙ before.untouched y (sym (more.others (want_at t.plan y) apart) ∙ isnt)

    module _ (r : Result Unit Unsettled) (memory : HadMemory r) (all : OnOk r ((y : ℕ) → IsAmong (of_want t.plan w) y → settled c.fates y ≡ true))
        (exactly : IsAlone b.cache → (cached maps : List (Map (List ℕ))) → Nothing b c cached maps
        → SettlesBy (source_at view t b cached maps w) (count_of t.listing) b.fates c.fates b.kit.chain c.kit.chain r)
        (shared : (cached maps : List (Map (List ℕ))) → OthersAddOnly (kind_of t.listing) (want_id t.listing t.plan w) (size_of t.listing (first_of t.plan w)) b.cache cached maps → Nothing b c cached maps
        → SettledShared (source_at view t b cached maps w) (count_of t.listing) b.fates c.fates r) where
      earlier : (cached maps : List (Map (List ℕ))) → Nothing a c cached maps → Nothing a b cached maps
      earlier cached maps nothing = nothing_first store view t (λ v. v ≡ w) a b c cached maps next.stretch nothing

      module _ (alone : IsAlone a.cache) where
        now_by : (cached maps : List (Map (List ℕ))) → Nothing a c cached maps → HaveOneSize t.listing a.cache cached maps
            → (c.kit.chain.asks ≡ raised b.kit.chain.asks (pass_asks (source_at view t a cached maps w)))
            × SettledBy (source_at view t a cached maps w) (count_of t.listing) b.fates c.fates r
        now_by cached maps nothing one =
            let later_on = stocked_told (TakesWants store t.listing t.plan (λ v. done v ≡ true) a.kit.chain.stores) a.cache b.cache cached first.stocked nothing.told_cache in
            let by = exactly (alone_since store view t (λ v. done v ≡ true) a b first alone) later_on.0 maps (nothing_next store view t (λ v. done v ≡ true) a b c cached maps first later_on.0 later_on.1 nothing) in
            subst (λ (s : Fate). (c.kit.chain.asks ≡ raised b.kit.chain.asks (pass_asks s)) × SettledBy s (count_of t.listing) b.fates c.fates r)
            (source_still cached later_on.0 maps nothing.told_cache later_on.1 nothing.told one) (by.0 memory, by.1)

        passed_more : (cached maps : List (Map (List ℕ))) → Nothing a c cached maps → HaveOneSize t.listing a.cache cached maps
            → PassedBy (source_if later (source_at view t a cached maps)) t.plan.wants (count_of t.listing) a.fates c.fates a.kit.chain c.kit.chain
        passed_more cached maps nothing one =
            let call = now_by cached maps nothing one in
            let source = source_at view t a cached maps in
            passed_on done later w t.plan.wants more.below more.wasnt more.now more.others source (count_of t.listing) a.fates b.fates c.fates a.kit.chain b.kit.chain c.kit.chain
            (before.passed alone cached maps (earlier cached maps nothing) one) call.0 (tallied_want (source w) (count_of t.listing) b.fates c.fates r memory call.1)

      module _ (adds : OthersAddListed store t.listing a.kit.chain.stores a.cache) where
        now_shared : (cached maps : List (Map (List ℕ))) → Nothing a c cached maps → HaveOneSize t.listing a.cache cached maps
            → SettledShared (source_at view t a cached maps w) (count_of t.listing) b.fates c.fates r
        now_shared cached maps nothing one =
            let later_on = stocked_told (TakesWants store t.listing t.plan (λ v. done v ≡ true) a.kit.chain.stores) a.cache b.cache cached first.stocked nothing.told_cache in
            subst (λ (s : Fate). SettledShared s (count_of t.listing) b.fates c.fates r) (source_still cached later_on.0 maps nothing.told_cache later_on.1 nothing.told one)
            (shared later_on.0 maps (only_still adds cached later_on.0 maps nothing.told_cache later_on.1 nothing.told one)
            (nothing_next store view t (λ v. done v ≡ true) a b c cached maps first later_on.0 later_on.1 nothing))

        shared_more : (cached maps : List (Map (List ℕ))) → Nothing a c cached maps → HaveOneSize t.listing a.cache cached maps
            → TalliedShared later (source_at view t a cached maps) t.plan.wants (count_of t.listing) a.fates c.fates
        shared_more cached maps nothing one =
            let source : ℕ → Fate = λ v. as_upstream (source_at view t a cached maps v) in
            let n0 = map as_upstream a.fates in
            let n1 = map as_upstream b.fates in
            let n2 = map as_upstream c.fates in
            tallied_more done later w t.plan.wants more.below more.wasnt more.now more.others source (count_of t.listing) n0 n1 n2
            (before.shared adds cached maps (earlier cached maps nothing) one) (tallied_want (source w) (count_of t.listing) n1 n2 r memory (now_shared cached maps nothing one))

        left_more : (cached maps : List (Map (List ℕ))) → Nothing a c cached maps → HaveOneSize t.listing a.cache cached maps
            → (y : ℕ) → y < count_of t.listing → later (want_at t.plan y) ≡ true → settled c.fates y ≡ false → source_at view t a cached maps (want_at t.plan y) ≡ fate.Open
        left_more cached maps nothing one y inside so isnt = elim (cases_eq (want_at t.plan y) w) [
          | inl same ↦
              let size : length t.plan.want_of ≡ count_of t.listing = wants.size in
              let here = source_at view t a cached maps w in
              ap (source_at view t a cached maps) same
              ∙ open_upstream here (left_want (as_upstream here) (count_of t.listing) (map as_upstream b.fates) (map as_upstream c.fates) c.fates (of_want t.plan w) r memory (now_shared cached maps nothing one) all y
              (among t.plan w y (omega (arith, inside, size)) same) isnt)
          | inr apart ↦ before.left adds cached maps (earlier cached maps nothing) one y inside (sym (more.others (want_at t.plan y) apart) ∙ so)
              (open_before b.fates c.fates next.stretch.step.grows y isnt)
        ]

      pub paid_more : Paid later a c
      paid_more = record { untouched = untouched_more; passed = passed_more; shared = shared_more; left = left_more }

  -- at the end: each want is done, or was settled at first
  pub paid_all : (done : ℕ → Bool) (a b : Stage S V)
      → ((w : ℕ) → w < t.plan.wants → (done w ≡ true) ⊎ ((i : ℕ) × IsAmong (of_want t.plan w) i × (settled a.fates i ≡ true))) → Paid done a b
      → IsAlone a.cache → WhereQuiet store view t.listing (from a) (from b) (λ cached maps.
      PassedBy (source_at view t a cached maps) t.plan.wants (count_of t.listing) a.fates b.fates a.kit.chain b.kit.chain)
  paid_all done a b all paid alone cached maps nothing one =
      let source = source_at view t a cached maps in
      passed_as (source_if done source) source t.plan.wants (count_of t.listing) a.fates b.fates a.kit.chain b.kit.chain
      (λ w less. all_done done source w (elim (all w less) [
        | inl is ↦ inl is
        | inr other ↦ inr (source_kept t (views_of view a.kit.seeds.items) maps w cached (settled a.fates) other.0 other.1 other.2)
      ]))
      (paid.passed alone cached maps nothing one)

  -- these wants are done
  pub paid_share : (done these : ℕ → Bool) (a b : Stage S V) → ((w : ℕ) → w < t.plan.wants → done w ≡ these w) → Paid done a b
      → IsAlone a.cache → WhereQuiet store view t.listing (from a) (from b) (λ cached maps.
      PassedBy (source_if these (source_at view t a cached maps)) t.plan.wants (count_of t.listing) a.fates b.fates a.kit.chain b.kit.chain)
  paid_share done these a b same paid alone cached maps nothing one =
      let source = source_at view t a cached maps in
      passed_as (source_if done source) (source_if these source) t.plan.wants (count_of t.listing) a.fates b.fates a.kit.chain b.kit.chain
      (λ w less. ap (λ b. if b then source w else fate.Kept) (same w less)) (paid.passed alone cached maps nothing one)

  pub shared_share : (done these : ℕ → Bool) (a b : Stage S V) → ((w : ℕ) → w < t.plan.wants → done w ≡ these w) → Paid done a b
      → OthersAddListed store t.listing a.kit.chain.stores a.cache → WhereQuiet store view t.listing (from a) (from b) (λ cached maps.
      TalliedShared these (source_at view t a cached maps) t.plan.wants (count_of t.listing) a.fates b.fates)
  shared_share done these a b same paid adds cached maps nothing one =
      let source : ℕ → Fate = λ w. as_upstream (source_at view t a cached maps w) in
      tallied_same (source_if done source) (source_if these source) t.plan.wants (λ w less. ap (λ b. if b then source w else fate.Kept) (same w less))
      (count_of t.listing) (map as_upstream a.fates) (map as_upstream b.fates) (paid.shared adds cached maps nothing one)
