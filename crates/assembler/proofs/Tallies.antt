-- Counts of fates, as entries are settled one by one.
use Rattle.std.proofs.Common.{◌≡◌, ◌⊎◌, ℕ, zero, suc, ◌+◌, ◌<◌, ◌≤◌, List, [], ◌∷◌, length, map, set, slice_index, true, false, refl, sym, ap, ◌∙◌, subst, inl, inr, arith}
use Rattle.std.proofs.lemmas.Bool.{cases_lt, true≢false}
use Rattle.assembler.specs.Economy.{Tallied}
use Rattle.range_survey.specs.Reports.{one_if, tally}
use Rattle.chunk_sources.specs.Economy.{as_upstream}
use Rattle.chunk_sources.specs.Wants.{IsAmong}
use Rattle.range_survey.proofs.Fated.{set_apart, set_here}
use Rattle.range_survey.specs.Fates.{fate_at, is_settled, settled}
use Rattle.range_survey.specs.declared.fate.Fate.{Fate}
use Rattle.range_survey.specs.declared.fate.Fate.TheVariants as fate

open_fate : (x : Fate) → is_settled x ≡ false → x ≡ fate.Open
open_fate fate.Open isnt = refl
open_fate fate.Kept isnt = absurd (true≢false isnt)
open_fate fate.Copied isnt = absurd (true≢false isnt)
open_fate fate.Seeded isnt = absurd (true≢false isnt)
open_fate fate.Cached isnt = absurd (true≢false isnt)
open_fate fate.Fetched isnt = absurd (true≢false isnt)

-- ---- one entry

module _ (f : Fate) (m : List Fate) (i : ℕ) (x : Fate) where
  apart_at : (k : ℕ) → (k ≡ i → ⊥) → one_if f (fate_at (set m i x) k) ≡ one_if f (fate_at m k)
  apart_at k apart = ap (one_if f) (set_apart m i k x apart)

  tally_before : (k : ℕ) → k ≤ i → tally f (set m i x) k ≡ tally f m k
  tally_before zero le = refl
  tally_before (suc k) le =
      let rest = tally_before k (omega arith) in
      let here = apart_at k (λ same. omega (arith, same)) in
      omega (arith, rest, here)

  tally_set : i < length m → (k : ℕ) → i < k → tally f (set m i x) k + one_if f (fate_at m i) ≡ tally f m k + one_if f x
  tally_set inside zero less = absurd (omega (arith, less))
  tally_set inside (suc k) less = elim (cases_lt i k) [
    | inl later ↦
        let rest = tally_set inside k later in
        let here = apart_at k (λ same. omega (arith, same, later)) in
        omega (arith, rest, here)
    | inr from ↦
        let same : i ≡ k = omega (arith, less, from) in
        let before = tally_before k (omega (arith, same)) in
        let was : one_if f (fate_at m i) ≡ one_if f (fate_at m k) = ap (λ n. one_if f (fate_at m n)) same in
        let is : one_if f (fate_at (set m i x) k) ≡ one_if f x = ap (one_if f) (subst (λ n. fate_at (set m i x) n ≡ x) same (set_here m i x inside)) in
        omega (arith, before, was, is)
  ]

-- what one more entry with a fate adds to the counts
abbrev pub TalliedAs : Fate → ℕ → List Fate → List Fate → Type 0
TalliedAs x n m0 m1 = Tallied (one_if fate.Seeded x) (one_if fate.Cached x) (one_if fate.Fetched x) n m0 m1

pub tallied_none : (n : ℕ) (m : List Fate) → Tallied 0 0 0 n m m
tallied_none n m = record { from_seeds = omega arith; from_cache = omega arith; from_stores = omega arith }

-- ---- with cache and stores as one

pub fate_upstream : (m : List Fate) (i : ℕ) → fate_at (map as_upstream m) i ≡ as_upstream (fate_at m i)
fate_upstream [] i = refl
fate_upstream (x ∷ m) zero = refl
fate_upstream (x ∷ m) (suc i) = fate_upstream m i

pub seeded_upstream : (x : Fate) → one_if fate.Seeded (as_upstream x) ≡ one_if fate.Seeded x
seeded_upstream fate.Open = refl
seeded_upstream fate.Kept = refl
seeded_upstream fate.Copied = refl
seeded_upstream fate.Seeded = refl
seeded_upstream fate.Cached = refl
seeded_upstream fate.Fetched = refl

cached_upstream : (x : Fate) → one_if fate.Cached (as_upstream x) ≡ 0
cached_upstream fate.Open = refl
cached_upstream fate.Kept = refl
cached_upstream fate.Copied = refl
cached_upstream fate.Seeded = refl
cached_upstream fate.Cached = refl
cached_upstream fate.Fetched = refl

pub either_upstream : (x : Fate) → one_if fate.Fetched (as_upstream x) ≡ one_if fate.Cached x + one_if fate.Fetched x
either_upstream fate.Open = refl
either_upstream fate.Kept = refl
either_upstream fate.Copied = refl
either_upstream fate.Seeded = refl
either_upstream fate.Cached = refl
either_upstream fate.Fetched = refl

module _ (m : List Fate) where
  tally_seeded : (n : ℕ) → tally fate.Seeded (map as_upstream m) n ≡ tally fate.Seeded m n
  tally_seeded zero = refl
  tally_seeded (suc n) = omega (arith, tally_seeded n, ap (one_if fate.Seeded) (fate_upstream m n), seeded_upstream (fate_at m n))

  tally_cached : (n : ℕ) → tally fate.Cached (map as_upstream m) n ≡ 0
  tally_cached zero = refl
  tally_cached (suc n) = omega (arith, tally_cached n, ap (one_if fate.Cached) (fate_upstream m n), cached_upstream (fate_at m n))

  tally_either : (n : ℕ) → tally fate.Fetched (map as_upstream m) n ≡ tally fate.Cached m n + tally fate.Fetched m n
  tally_either zero = refl
  tally_either (suc n) = omega (arith, tally_either n, ap (one_if fate.Fetched) (fate_upstream m n), either_upstream (fate_at m n))

pub tallied_upstream : (x : Fate) (n : ℕ) (m0 m1 : List Fate) → TalliedAs x n m0 m1 → TalliedAs (as_upstream x) n (map as_upstream m0) (map as_upstream m1)
tallied_upstream x n m0 m1 counts = record {
  from_seeds = omega (arith, counts.from_seeds, tally_seeded m0 n, tally_seeded m1 n, seeded_upstream x);
  from_cache = omega (arith, tally_cached m0 n, tally_cached m1 n, cached_upstream x);
  from_stores = omega (arith, counts.from_cache, counts.from_stores, tally_either m0 n, tally_either m1 n, either_upstream x);
}

-- some more, and then some more
pub tallied_on : (a b c e f g n : ℕ) (m0 m1 m2 : List Fate) → Tallied a b c n m0 m1 → Tallied e f g n m1 m2 → Tallied (a + e) (b + f) (c + g) n m0 m2
tallied_on a b c e f g n m0 m1 m2 first next = record {
  from_seeds = omega (arith, first.from_seeds, next.from_seeds);
  from_cache = omega (arith, first.from_cache, next.from_cache);
  from_stores = omega (arith, first.from_stores, next.from_stores);
}

pub tallied_set : (m : List Fate) (i : ℕ) (x : Fate) (n : ℕ) → i < length m → i < n → settled m i ≡ false → TalliedAs x n m (set m i x)
tallied_set m i x n inside less isnt =
    let was : fate_at m i ≡ fate.Open = open_fate (fate_at m i) isnt in
    let seeded = tally_set fate.Seeded m i x inside n less in
    let cached = tally_set fate.Cached m i x inside n less in
    let fetched = tally_set fate.Fetched m i x inside n less in
    let no_seed : one_if fate.Seeded (fate_at m i) ≡ 0 = ap (one_if fate.Seeded) was in
    let no_cache : one_if fate.Cached (fate_at m i) ≡ 0 = ap (one_if fate.Cached) was in
    let no_store : one_if fate.Fetched (fate_at m i) ≡ 0 = ap (one_if fate.Fetched) was in
    record {
      from_seeds = omega (arith, seeded, no_seed);
      from_cache = omega (arith, cached, no_cache);
      from_stores = omega (arith, fetched, no_store);
    }

-- and then a copy
pub tallied_copy : (x : Fate) (n : ℕ) (m0 m1 m2 : List Fate) → TalliedAs x n m0 m1 → TalliedAs fate.Copied n m1 m2 → TalliedAs x n m0 m2
tallied_copy x n m0 m1 m2 first copy = record {
  from_seeds = omega (arith, first.from_seeds, copy.from_seeds);
  from_cache = omega (arith, first.from_cache, copy.from_cache);
  from_stores = omega (arith, first.from_stores, copy.from_stores);
}

-- ---- the entries of a want

-- The first k of the entries were passed, and the next that is written will have the fate x: either none was written,
-- since these were settled before, or the first that was has the origin, and each other is a copy
abbrev pub PutUpTo : Fate → Fate → List ℕ → ℕ → ℕ → List Fate → List Fate → Type 0
PutUpTo origin x es k n m0 m1 = ((x ≡ origin) × (m1 ≡ m0) × ((j : ℕ) → j < k → settled m0 (slice_index es j) ≡ true))
    ⊎ ((x ≡ fate.Copied) × TalliedAs origin n m0 m1)

module _ (origin x : Fate) (es : List ℕ) (k n : ℕ) (m0 m1 m2 : List Fate) where
  pub put_written : slice_index es k < length m1 → slice_index es k < n → settled m1 (slice_index es k) ≡ false → m2 ≡ set m1 (slice_index es k) x
      → PutUpTo origin x es k n m0 m1 → PutUpTo origin fate.Copied es (k + 1) n m0 m2
  put_written inside less isnt is (inl (first, none, before)) =
      let here = tallied_set m1 (slice_index es k) x n inside less isnt in
      let a = subst (λ m. TalliedAs x n m1 m) (sym is) here in
      let b = subst (λ m. TalliedAs x n m m2) none a in
      inr (refl, subst (λ y. TalliedAs y n m0 m2) first b)
  put_written inside less isnt is (inr (later, counts)) =
      let here = tallied_set m1 (slice_index es k) x n inside less isnt in
      let a = subst (λ m. TalliedAs x n m1 m) (sym is) here in
      let b = subst (λ y. TalliedAs y n m1 m2) later a in
      inr (refl, tallied_copy origin n m0 m1 m2 counts b)

  pub put_passed : settled m1 (slice_index es k) ≡ true → m2 ≡ m1 → PutUpTo origin x es k n m0 m1 → PutUpTo origin x es (k + 1) n m0 m2
  put_passed was is (inl (first, none, before)) = inl (
    first,
    is ∙ none,
    λ j less. elim (cases_lt j k) [
      | inl below ↦ before j below
      | inr from ↦ let same : k ≡ j = omega (arith, less, from) in subst (λ i. settled m0 (slice_index es i) ≡ true) same (ap (λ m. settled m (slice_index es k)) (sym none) ∙ was)
    ],
  )
  put_passed was is (inr (later, counts)) = inr (later, subst (λ m. TalliedAs origin n m0 m) (sym is) counts)

-- one of them was open, so the first that was has the origin
pub put_some : (origin x : Fate) (es : List ℕ) (k n : ℕ) (m0 m1 : List Fate) → length es ≤ k → PutUpTo origin x es k n m0 m1
    → (i : ℕ) → IsAmong es i → settled m0 i ≡ false → TalliedAs origin n m0 m1
put_some origin x es k n m0 m1 all (inl (first, none, before)) i among isnt =
    absurd (true≢false (sym (before among.0 (omega (arith, among.1))) ∙ ap (settled m0) among.2 ∙ isnt))
put_some origin x es k n m0 m1 all (inr (later, counts)) i among isnt = counts
