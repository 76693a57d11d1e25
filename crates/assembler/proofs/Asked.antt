-- How often stores were asked, from one want to the next.
use Rattle.std.proofs.Common.{◌≡◌, ◌≢◌, ◌⊎◌, ℕ, zero, suc, ◌+◌, ◌<◌, ◌≤◌, List, [], ◌∷◌, slice_index, Bool, true, false, if◌then◌else◌, inl, inr, refl, sym, ap, ◌∙◌, subst, arith}
use Rattle.std.proofs.lemmas.Bool.{cases_Bool, cases_eq, true≢false}
use Rattle.std.proofs.lemmas.Slice.Eq.{bytes_eq-Decides}
use Rattle.std.specs.Bool.{Decides}
use Rattle.std.specs.Str.{bytes_eq}
use Rattle.assembler.proofs.CacheSpared.{cache_never, cache_part}
use Rattle.assembler.proofs.Counted.{quiet_part}
use Rattle.assembler.proofs.Filled.{settled_on}
use Rattle.assembler.proofs.Others.{adds_on, alone_adds}
use Rattle.assembler.proofs.Stepped.{stretch_none}
use Rattle.assembler.specs.Passes.{PassAsks, one_pass}
use Rattle.assembler.specs.Stages.{Stage, Stretch, from}
use Rattle.caibx_codec.specs.Listing.{size_of}
use Rattle.chunk_sources.proofs.Cached.{stocked_falls}
use Rattle.chunk_sources.proofs.Lacking.{quiet_never}
use Rattle.chunk_sources.specs.Asks.{AsksAtMost, CacheGivesWant, IsSpared, IsSparedBeside, IsSparedIf, ShareAsks, asked_at, asks_below, asks_for, calls_below, calls_for, others_spared}
use Rattle.chunk_sources.specs.Caches.{AddsSize, IsAlone, TakesWants}
use Rattle.chunk_sources.specs.Losses.{AskedLast}
use Rattle.chunk_sources.specs.Sources.{HeldAt, counts_of, views_of}
use Rattle.chunk_sources.specs.Wants.{Task, want_chunk}
use Rattle.chunk_store.specs.Said.{AskedOnce}
use Rattle.chunk_store.specs.declared.store.Store.{Ghosts as StoreWords}
use Rattle.dsy_base.specs.Counts.{Rose}
use Rattle.dsy_base.specs.declared.view.View.{Ghosts as ViewWords}
use Rattle.extract_plan.specs.Deal.{AreWants, first_of, want_id}
use Rattle.extract_plan.specs.declared.seed.Seed.{Seed}
use Rattle.extract_plan.specs.declared.seed.SeedPlace.{SeedPlace}
use Rattle.range_survey.specs.Fates.{settled}
use Rattle.store_chain.specs.Chains.{AsksOnce, Chained, EachOnce}

-- ---- one store, and each of several

abbrev one_if : List ℕ → List ℕ → ℕ
one_if id q = if bytes_eq id q then 1 else 0

once_by : (old new : List ℕ → ℕ) (id q : List ℕ) (r : Bool) → Decides r (id ≡ q) → AskedOnce old new id → (old q ≤ new q) × (new q ≤ old q + (if r then 1 else 0))
once_by old new id q true same once = subst (λ (x : List ℕ). (old x ≤ new x) × (new x ≤ old x + 1)) (same.0 refl) (once.no_less, once.this)
once_by old new id q false same once =
    let as_before : new q ≡ old q = once.others q (λ e. let bad : false ≡ true = same.1 (sym e) in absurd (cc)) in
    (omega (arith, as_before), omega (arith, as_before))

once_here : (old new : List ℕ → ℕ) (id q : List ℕ) → AskedOnce old new id → (old q ≤ new q) × (new q ≤ old q + one_if id q)
once_here old new id q once = once_by old new id q (bytes_eq id q) (bytes_eq-Decides id q) once

once_at : {S : Type 0} (store : StoreWords S) (id : List ℕ) (xs ys : List S) → EachOnce store.asked id xs ys → (q : List ℕ) (k : ℕ)
    → (asked_at store xs q k ≤ asked_at store ys q k) × (asked_at store ys q k ≤ asked_at store xs q k + one_if id q)
once_at store id [] [] all q k = (omega arith, omega arith)
once_at store id [] (y ∷ ys) all q k = absurd all
once_at store id (x ∷ xs) [] all q k = absurd all
once_at store id (x ∷ xs) (y ∷ ys) all q zero = once_here (store.asked x) (store.asked y) id q all.0
once_at store id (x ∷ xs) (y ∷ ys) all q (suc k) = once_at store id xs ys all.1 q k

-- ---- chains

-- no call
pub asks_none : {S : Type 0} (store : StoreWords S) (c : ℕ) (n : List ℕ → ℕ) (chain : Chained S) → AsksAtMost store c n chain chain
asks_none store c n chain = record { no_fewer = omega arith; calls = omega arith; no_less = λ q k. omega arith; most = λ q k. omega arith }

pub asks_same : {S : Type 0} (store : StoreWords S) (c : ℕ) (n : List ℕ → ℕ) (old new : Chained S) → new ≡ old → AsksAtMost store c n old new
asks_same store c n old new same = subst (AsksAtMost store c n old) (sym same) (asks_none store c n old)

-- calls, and then others
pub asks_on : {S : Type 0} (store : StoreWords S) (c e : ℕ) (n m : List ℕ → ℕ) (old mid new : Chained S)
    → AsksAtMost store c n old mid → AsksAtMost store e m mid new → AsksAtMost store (c + e) (λ q. n q + m q) old new
asks_on store c e n m old mid new first next = record {
  no_fewer = omega (arith, first.no_fewer, next.no_fewer);
  calls = omega (arith, first.calls, next.calls);
  no_less = λ q k. omega (arith, first.no_less q k, next.no_less q k);
  most = λ q k. omega (arith, first.most q k, next.most q k);
}

-- at most this many, and hence at most more
pub asks_up : {S : Type 0} (store : StoreWords S) (c e : ℕ) (n m : List ℕ → ℕ) (old new : Chained S) → c ≤ e → ((q : List ℕ) → n q ≤ m q)
    → AsksAtMost store c n old new → AsksAtMost store e m old new
asks_up store c e n m old new fewer less asks = record {
  no_fewer = asks.no_fewer;
  calls = omega (arith, asks.calls);
  no_less = asks.no_less;
  most = λ q k. omega (arith, asks.most q k, less q);
}

-- ---- sums over the wants below a number

abbrev sums : (ℕ → ℕ) → ℕ → ℕ
sums p zero = 0
sums p (suc k) = sums p k + p k

calls_are : (spared : ℕ → Bool) (n : ℕ) → calls_below spared n ≡ sums (calls_for spared) n
calls_are spared zero = refl
calls_are spared (suc n) = ap (λ k. k + calls_for spared n) (calls_are spared n)

asks_are : (ids : ℕ → List ℕ) (spared : ℕ → Bool) (q : List ℕ) (n : ℕ) → asks_below ids spared n q ≡ sums (λ w. asks_for ids spared w q) n
asks_are ids spared q zero = refl
asks_are ids spared q (suc n) = ap (λ k. k + asks_for ids spared n q) (asks_are ids spared q n)

-- where one term alone differs, which was 0
module _ (p r : ℕ → ℕ) (w : ℕ) (others : (v : ℕ) → v ≢ w → r v ≡ p v) where
  sums_same : (n : ℕ) → n ≤ w → sums r n ≡ sums p n
  sums_same zero le = refl
  sums_same (suc n) le = omega (arith, sums_same n (omega arith), others n (omega arith))

  sums_one : p w ≡ 0 → (n : ℕ) → w < n → sums p n + r w ≤ sums r n
  sums_one was zero less = absurd (omega arith)
  sums_one was (suc n) less = elim (cases_eq n w) [
    | inl same ↦ omega (arith, sums_same n (omega arith), ap p same, was, ap r same)
    | inr apart ↦ omega (arith, sums_one was n (omega arith), others n apart)
  ]

-- where no term is greater
sums_fewer : (p r : ℕ → ℕ) → ((v : ℕ) → r v ≤ p v) → (n : ℕ) → sums r n ≤ sums p n
sums_fewer p r fewer zero = omega arith
sums_fewer p r fewer (suc n) = omega (arith, sums_fewer p r fewer n, fewer n)

-- a want that is spared takes nothing
fewer_for : (was is : Bool) (k : ℕ) → (was ≡ true → is ≡ true) → (if is then 0 else k) ≤ (if was then 0 else k)
fewer_for was true k more = omega arith
fewer_for false false k more = omega arith
fewer_for true false k more = absurd (true≢false (sym (more refl)))

-- one call for a want that isn't spared
asks_last : {S : Type 0} (store : StoreWords S) (ids : ℕ → List ℕ) (spared : ℕ → Bool) (w : ℕ) (old new : Chained S) → spared w ≡ false
    → AsksOnce store.asked store.queried (ids w) old new → AsksAtMost store (calls_for spared w) (asks_for ids spared w) old new
asks_last store ids spared w old new isnt once =
    let one : calls_for spared w ≡ 1 = rw (isnt) refl in
    let here : (q : List ℕ) → asks_for ids spared w q ≡ one_if (ids w) q = λ q. rw (isnt) refl in
    record {
      no_fewer = omega (arith, once.calls, once.below);
      calls = omega (arith, once.calls, one);
      no_less = λ q k. (once_at store (ids w) old.stores new.stores once.stores q k).0;
      most = λ q k. omega (arith, (once_at store (ids w) old.stores new.stores once.stores q k).1, here q);
    }

-- a want that isn't done takes no call
undone : (done spared : ℕ → Bool) (w : ℕ) → done w ≡ false → others_spared done spared w ≡ true
undone done spared w isnt = ap (λ b. if b then spared w else true) isnt

as_done : (done spared : ℕ → Bool) (w : ℕ) → done w ≡ true → others_spared done spared w ≡ spared w
as_done done spared w is = ap (λ b. if b then spared w else true) is

pub both_of : (x y : Bool) → (if x then y else false) ≡ true → (x ≡ true) × (y ≡ true)
both_of true y is = (refl, is)
both_of false y is = absurd (true≢false (sym is))

-- ---- wants that are got without the stores

module _ {S V : Type 0} (store : StoreWords S) (view : ViewWords V) (t : Task) where
  abbrev Over : (ℕ → Type 0) → Stage S V → Stage S V → Type 0
  Over A a b = Stretch store view t A a b

  abbrev Spared : Stage S V → Stage S V → ℕ → Type 0
  Spared a b w = IsSpared store view t (λ j. settled a.fates j ≡ true) (from a) (from b) w

  -- it was spared where others add to the cache
  abbrev pub SparedAlone : Stage S V → Stage S V → ℕ → Type 0
  SparedAlone a b w = IsSparedBeside store view t (λ j. settled a.fates j ≡ true) (from a) (from b) w

  -- the cache spares it
  abbrev Cached : Stage S V → Stage S V → ℕ → Type 0
  Cached a b w = CacheGivesWant store view t (from a) (from b) w

  -- others add no chunk of another size under its id
  abbrev Sized : Stage S V → ℕ → Type 0
  Sized a w = AddsSize (want_id t.listing t.plan w) (size_of t.listing (first_of t.plan w)) a.cache

  -- a want that was spared over a stretch was spared over each part of it
  module _ (A B : ℕ → Type 0) (a b c e : Stage S V) (w : ℕ) (wants : AreWants t.listing t.plan.wants t.plan.want_of) (within : (v : ℕ) → A v → v < t.plan.wants)
      (before : Over A a b) (after : Over B c e) where
    part_by : (P Q : Type 0) → (P → Q) → IsSparedIf store view t P (λ j. settled a.fates j ≡ true) (from a) (from e) w → IsSparedIf store view t Q (λ j. settled b.fates j ≡ true) (from b) (from c) w
    part_by P Q cache (inl ((j, among, is), quiet)) =
        inl ((j, among, settled_on a.fates b.fates before.step.grows j is), quiet_part a.faults b.faults c.faults e.faults before.step.never_falls after.step.never_falls quiet)
    part_by P Q cache (inr (inl (k, p, inside, at, (has, quiet)))) =
        let counts : Stage S V → ℕ = λ y. slice_index (counts_of view y.kit.seeds.items) p.seed in
        inr (inl (
          k,
          p,
          inside,
          at,
          (
            subst (λ views. HeldAt views p (want_id t.listing t.plan w)) (sym before.step.seeds.held) has,
            quiet_part (counts a) (counts b) (counts c) (counts e) (before.step.seeds.never_fall p.seed) (after.step.seeds.never_fall p.seed) quiet,
          ),
        ))
    part_by P Q cache (inr (inr gives)) = inr (inr (cache gives))

    cached_part : Cached a e w → Cached b c w
    cached_part gives = cache_part store t.listing t.plan A a.kit.chain.stores b.kit.chain.stores a.cache b.cache c.cache e.cache (want_id t.listing t.plan w)
        (size_of t.listing (first_of t.plan w)) wants within before.stocked
        (stocked_falls (TakesWants store t.listing t.plan B c.kit.chain.stores) c.cache e.cache after.stocked) before.step.stores.members gives

    sized_part : Sized a w → Sized b w
    sized_part adds = adds_on (TakesWants store t.listing t.plan A a.kit.chain.stores) (want_id t.listing t.plan w) (size_of t.listing (first_of t.plan w)) a.cache b.cache before.stocked adds

    spared_part : Spared a e w → Spared b c w
    spared_part = part_by (Cached a e w) (Cached b c w) cached_part

    beside_part : SparedAlone a e w → SparedAlone b c w
    beside_part = part_by (Cached a e w × Sized a w) (Cached b c w × Sized b w) (λ has. (cached_part has.0, sized_part has.1))

  -- over the first part of it, and over the rest of it
  module _ (B : ℕ → Type 0) (a b c : Stage S V) (w : ℕ) (wants : AreWants t.listing t.plan.wants t.plan.want_of) (next : Over B b c) where
    pub spared_first : Spared a c w → Spared a b w
    spared_first = spared_part (λ v. ⊥) B a a b c w wants (λ v none. absurd none) (stretch_none store view t (λ v. ⊥) a) next

    beside_first : SparedAlone a c w → SparedAlone a b w
    beside_first = beside_part (λ v. ⊥) B a a b c w wants (λ v none. absurd none) (stretch_none store view t (λ v. ⊥) a) next

  module _ (A : ℕ → Type 0) (a b c : Stage S V) (w : ℕ) (wants : AreWants t.listing t.plan.wants t.plan.want_of) (within : (v : ℕ) → A v → v < t.plan.wants) (first : Over A a b) where
    pub spared_rest : Spared a c w → Spared b c w
    spared_rest = spared_part A (λ v. ⊥) a b c c w wants within first (stretch_none store view t (λ v. ⊥) c)

    beside_rest : SparedAlone a c w → SparedAlone b c w
    beside_rest = beside_part A (λ v. ⊥) a b c c w wants within first (stretch_none store view t (λ v. ⊥) c)

  -- the chain was asked for want w as a last resort
  abbrev pub Last : Stage S V → Stage S V → ℕ → Type 0
  Last a b w = AskedLast store view (want_chunk t w) a.fates (from a) (from b)

  -- the stores weren't asked for it
  spared_never : (a b : Stage S V) (w : ℕ) → SparedAlone a b w → Last a b w → ⊥
  spared_never a b w (inl ((j, among, is), quiet)) last = quiet_never a.faults b.faults quiet (last.copies j among is)
  spared_never a b w (inr (inl (k, p, inside, at, (has, quiet)))) last =
      let counts : List (Seed V) → SeedPlace → ℕ = λ s y. slice_index (counts_of view s) y.seed in
      let s0 = a.kit.seeds.items in
      let s1 = b.kit.seeds.items in
      let failed : HeldAt (views_of view s0) p (want_id t.listing t.plan w) → Rose (counts s0 p) (counts s1 p) =
      subst (λ y. HeldAt (views_of view s0) y (want_id t.listing t.plan w) → Rose (counts s0 y) (counts s1 y)) at (last.seeds k p inside) in
      quiet_never (counts s0 p) (counts s1 p) quiet (failed has)
  spared_never a b w (inr (inr (gives, adds))) last =
      cache_never store t.listing a.kit.chain.stores (want_id t.listing t.plan w) (size_of t.listing (first_of t.plan w)) a.cache b.cache gives adds last.cache

  -- what one want asks
  asks_want : (a b : Stage S V) (spared : ℕ → Bool) (w : ℕ) → (spared w ≡ true → SparedAlone a b w) → (b.kit.chain ≡ a.kit.chain) ⊎ Last a b w
      → AsksAtMost store (calls_for spared w) (asks_for (want_id t.listing t.plan) spared w) a.kit.chain b.kit.chain
  asks_want a b spared w are (inl same) = asks_same store (calls_for spared w) (asks_for (want_id t.listing t.plan) spared w) a.kit.chain b.kit.chain same
  asks_want a b spared w are (inr last) = elim (cases_Bool (spared w)) [
    | inl is ↦ absurd (spared_never a b w (are is) last)
    | inr isnt ↦ asks_last store (want_id t.listing t.plan) spared w a.kit.chain b.kit.chain isnt last.once
  ]

  -- ---- the wants that are done

  -- each was asked for at most once
  abbrev pub AsksDone : (ℕ → Bool) → Stage S V → Stage S V → Type 0
  AsksDone done a b = (spared : ℕ → Bool) → ((w : ℕ) → w < t.plan.wants → spared w ≡ true → SparedAlone a b w)
      → AsksAtMost store (calls_below (others_spared done spared) t.plan.wants) (asks_below (want_id t.listing t.plan) (others_spared done spared) t.plan.wants) a.kit.chain b.kit.chain

  pub asks_done_none : (done : ℕ → Bool) (a : Stage S V) → AsksDone done a a
  asks_done_none done a = λ spared are.
      asks_none store (calls_below (others_spared done spared) t.plan.wants) (asks_below (want_id t.listing t.plan) (others_spared done spared) t.plan.wants) a.kit.chain

  -- more wants are spared
  asks_fewer : (f g : ℕ → Bool) → ((v : ℕ) → g v ≡ true → f v ≡ true) → (a b : Stage S V)
      → AsksAtMost store (calls_below f t.plan.wants) (asks_below (want_id t.listing t.plan) f t.plan.wants) a.kit.chain b.kit.chain
      → AsksAtMost store (calls_below g t.plan.wants) (asks_below (want_id t.listing t.plan) g t.plan.wants) a.kit.chain b.kit.chain
  asks_fewer f g more a b asks =
      let n = t.plan.wants in
      let ids = want_id t.listing t.plan in
      let calls : calls_below f n ≤ calls_below g n =
      omega (arith, calls_are f n, calls_are g n, sums_fewer (calls_for g) (calls_for f) (λ v. fewer_for (g v) (f v) 1 (more v)) n) in
      let each : (q : List ℕ) → asks_below ids f n q ≤ asks_below ids g n q = λ q.
      let fewer = sums_fewer (λ v. asks_for ids g v q) (λ v. asks_for ids f v q) (λ v. fewer_for (g v) (f v) (if bytes_eq (ids v) q then 1 else 0) (more v)) n in
      omega (arith, asks_are ids f q n, asks_are ids g q n, fewer) in
      asks_up store (calls_below f n) (calls_below g n) (asks_below ids f n) (asks_below ids g n) a.kit.chain b.kit.chain calls each asks

  -- one want more
  pub asks_done_more : (done later : ℕ → Bool) (B : ℕ → Type 0) (a b c : Stage S V) (w : ℕ) → AreWants t.listing t.plan.wants t.plan.want_of
      → ((v : ℕ) → done v ≡ true → v < t.plan.wants) → w < t.plan.wants → done w ≡ false → later w ≡ true → ((v : ℕ) → v ≢ w → later v ≡ done v)
      → Over (λ v. done v ≡ true) a b → Over B b c → (c.kit.chain ≡ b.kit.chain) ⊎ Last b c w → AsksDone done a b → AsksDone later a c
  asks_done_more done later B a b c w wants within below wasnt is others first next asks before = λ spared are.
      let n = t.plan.wants in
      let f = others_spared done spared in
      let g = others_spared later spared in
      let ids = want_id t.listing t.plan in
      let elsewhere : (v : ℕ) → v ≢ w → g v ≡ f v = λ v apart. ap (λ b. if b then spared v else true) (others v apart) in
      let was : f w ≡ true = undone done spared w wasnt in
      let here : g w ≡ spared w = as_done later spared w is in
      let so_far = before spared (λ v less so. beside_first B a b c v wants next (are v less so)) in
      let one = asks_want b c g w (λ so. beside_rest (λ v. done v ≡ true) a b c w wants within first (are w below (sym here ∙ so))) asks in
      let calls : calls_below f n + calls_for g w ≤ calls_below g n =
      let one = sums_one (calls_for f) (calls_for g) w (λ v apart. ap (λ b. if b then 0 else 1) (elsewhere v apart)) (ap (λ b. if b then 0 else 1) was) n below in
      omega (arith, calls_are f n, calls_are g n, one) in
      let each : (q : List ℕ) → asks_below ids f n q + asks_for ids g w q ≤ asks_below ids g n q = λ q.
      let one = sums_one (λ v. asks_for ids f v q) (λ v. asks_for ids g v q) w (λ v apart. rw (elsewhere v apart) refl) (rw was refl) n below in
      omega (arith, asks_are ids f q n, asks_are ids g q n, one) in
      asks_up store (calls_below f n + calls_for g w) (calls_below g n) (λ q. asks_below ids f n q + asks_for ids g w q) (asks_below ids g n)
      a.kit.chain c.kit.chain calls each
      (asks_on store (calls_below f n) (calls_for g w) (asks_below ids f n) (asks_for ids g w) a.kit.chain b.kit.chain c.kit.chain so_far one)

  -- all that are done are among these wants
  pub asks_done_share : (done these : ℕ → Bool) → ((v : ℕ) → done v ≡ true → these v ≡ true) → (a b : Stage S V) → AsksDone done a b → ShareAsks store view t a.fates (from a) (from b) these
  asks_done_share done these within a b asks = λ spared are.
      let both : ℕ → Bool = λ v. if these v then spared v else false in
      let more : (v : ℕ) → others_spared these spared v ≡ true → others_spared done both v ≡ true = λ v is. elim (cases_Bool (done v)) [
        | inl was ↦ as_done done both v was ∙ (ap (λ b. if b then spared v else false) (within v was) ∙ (sym (as_done these spared v (within v was)) ∙ is))
        | inr wasnt ↦ undone done both v wasnt
      ] in
      asks_fewer (others_spared done both) (others_spared these spared) more a b
      (asks both (λ w less so. are w less (both_of (these w) (spared w) so).0 (both_of (these w) (spared w) so).1))

  beside_alone : (a b : Stage S V) → IsAlone a.cache → (w : ℕ) → Spared a b w → SparedAlone a b w
  beside_alone a b alone w (inl right) = inl right
  beside_alone a b alone w (inr (inl seed)) = inr (inl seed)
  beside_alone a b alone w (inr (inr gives)) = inr (inr (gives, alone_adds (want_id t.listing t.plan w) (size_of t.listing (first_of t.plan w)) a.cache alone))

  -- these are all wants, and nobody else fills the cache
  pub asks_share_all : (these : ℕ → Bool) → ((v : ℕ) → these v ≡ true) → (a b : Stage S V) → IsAlone a.cache → ShareAsks store view t a.fates (from a) (from b) these → PassAsks store view t one_pass a b
  asks_share_all these all a b alone asks = λ spared are.
      asks_fewer (others_spared these spared) spared (λ v is. as_done these spared v (all v) ∙ is) a b (asks spared (λ w less is so. beside_alone a b alone w (are w less so)))

  pub asks_done_all : (done : ℕ → Bool) (a b : Stage S V) → IsAlone a.cache → AsksDone done a b → PassAsks store view t one_pass a b
  asks_done_all done a b alone asks = asks_share_all (λ v. true) (λ v. refl) a b alone (asks_done_share done (λ v. true) (λ v is. refl) a b asks)
