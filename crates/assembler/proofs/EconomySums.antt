-- Sums over wants, and counts that stay at their greatest value.
use Rattle.std.proofs.Common.{◌≡◌, ◌≢◌, ℕ, zero, suc, ◌+◌, ◌-◌, ◌<◌, ◌≤◌, ◌^◌, min, refl, sym, ap, ◌∙◌, inl, inr, arith}
use Rattle.std.proofs.Math.Nat.{min-eq_left, min-eq_right}
use Rattle.std.proofs.lemmas.Bool.{cases_eq, cases_lt}
use Rattle.chunk_sources.specs.Economy.{sum_below}
use Rattle.dsy_base.specs.Counts.{raised}

-- ---- sums

-- where each term is the same
pub sum_same : (f g : ℕ → ℕ) (n : ℕ) → ((w : ℕ) → w < n → f w ≡ g w) → sum_below f n ≡ sum_below g n
sum_same f g zero same = refl
sum_same f g (suc n) same = omega (arith, sum_same f g n (λ w less. same w (omega arith)), same n (omega arith))

-- term by term
pub sum_both : (f g h : ℕ → ℕ) (n : ℕ) → ((w : ℕ) → w < n → f w + g w ≡ h w) → sum_below f n + sum_below g n ≡ sum_below h n
sum_both f g h zero same = refl
sum_both f g h (suc n) same = omega (arith, sum_both f g h n (λ w less. same w (omega arith)), same n (omega arith))

-- where no term adds anything
pub sum_none : (f : ℕ → ℕ) (n : ℕ) → ((w : ℕ) → w < n → f w ≡ 0) → sum_below f n ≡ 0
sum_none f zero none = refl
sum_none f (suc n) none = omega (arith, sum_none f n (λ w less. none w (omega arith)), none n (omega arith))

-- where one term alone differs, which was 0
pub sum_one : (f g : ℕ → ℕ) (w n : ℕ) → ((v : ℕ) → v ≢ w → g v ≡ f v) → f w ≡ 0 → w < n → sum_below f n + g w ≡ sum_below g n
sum_one f g w zero others was less = absurd (omega arith)
sum_one f g w (suc n) others was less = elim (cases_eq n w) [
  | inl same ↦
      let rest = sum_same g f n (λ v below. others v (λ e. let bad : v ≡ n = e ∙ sym same in absurd (omega (arith, below, bad)))) in
      omega (arith, rest, ap f same, was, ap g same)
  | inr apart ↦ omega (arith, sum_one f g w n others was (omega (arith, less, apart)), others n apart)
]

-- ---- counts

raised_small : (c n : ℕ) → c + n < 2 ^ 64 → raised c n ≡ c + n
raised_small c n less = min-eq_left (omega (arith, less))

raised_large : (c n : ℕ) → 2 ^ 64 - 1 ≤ c + n → raised c n ≡ 2 ^ 64 - 1
raised_large c n more = min-eq_right more

-- n more, and then m more
pub raised_on : (c n m : ℕ) → raised (raised c n) m ≡ raised c (n + m)
raised_on c n m = elim (cases_lt (c + n) (2 ^ 64)) [
  | inl less ↦
      let once : raised c n ≡ c + n = raised_small c n less in
      let same : (c + n) + m ≡ c + (n + m) = omega arith in
      ap (λ k. raised k m) once ∙ ap (λ k. min k (2 ^ 64 - 1)) same
  | inr more ↦
      let once : raised c n ≡ 2 ^ 64 - 1 = raised_large c n (omega (arith, more)) in
      raised_large (raised c n) m (omega (arith, once)) ∙ sym (raised_large c (n + m) (omega (arith, more)))
]
