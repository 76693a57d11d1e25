-- Sums over what is dealt to several workers. Workers, wants and entries count from 0.
use Rattle.std.proofs.Common.{◌≡◌, ◌≢◌, ◌+◌, ◌%◌, ◌∙◌, ◌<◌, ℕ, zero, suc, List, true, false, if◌then◌else◌, refl, sym, ap, inl, inr, arith}
use Rattle.std.proofs.lemmas.Bool.{cases_eq, eq-eqb, ne_eqb}
use Rattle.std.proofs.lemmas.Nat.{mod_below}
use Rattle.assembler.proofs.EconomySums.{sum_both, sum_none, sum_same}
use Rattle.assembler.specs.Passes.{want_at}
use Rattle.assembler.specs.Permits.{deals_to}
use Rattle.chunk_sources.specs.Economy.{source_if, sum_below}
use Rattle.extract_plan.specs.Deal.{Deal}
use Rattle.image_workers.proofs.Tallying.{with_fate}
use Rattle.image_workers.specs.Reporting.{known_at}
use Rattle.range_survey.specs.Fates.{FirstFates, fate_at}
use Rattle.range_survey.specs.Reports.{one_if, tally}
use Rattle.range_survey.specs.declared.fate.Fate.{Fate}
use Rattle.range_survey.specs.declared.fate.Fate.TheVariants as fate

-- where one term alone adds anything
sum_only : (g : ℕ → ℕ) (w n : ℕ) → w < n → ((v : ℕ) → v < n → v ≢ w → g v ≡ 0) → sum_below g n ≡ g w
sum_only g w zero less others = absurd (omega arith)
sum_only g w (suc n) less others = elim (cases_eq n w) [
  | inl same ↦
      let rest = sum_none g n (λ v below. others v (omega arith) (λ e. let bad : v ≡ n = e ∙ sym same in absurd (omega (arith, below, bad)))) in
      omega (arith, rest, ap g same)
  | inr apart ↦ omega (arith, sum_only g w n (omega (arith, less, apart)) (λ v below other. others v (omega arith) other), others n (omega arith) apart)
]

-- two sums may be made in either order
sum_swap : (h : ℕ → ℕ → ℕ) (a b : ℕ) → sum_below (λ i. sum_below (λ k. h k i) b) a ≡ sum_below (λ k. sum_below (λ i. h k i) a) b
sum_swap h zero b = sym (sum_none (λ k. 0) b (λ k less. refl))
sum_swap h (suc a) b =
    ap (λ n. n + sum_below (λ k. h k a) b) (sum_swap h a b)
    ∙ sum_both (λ k. sum_below (λ i. h k i) a) (λ k. h k a) (λ k. sum_below (λ i. h k i) (suc a)) b (λ k less. refl)

-- the number of entries with a fate is such a sum
pub tally_is : (f : Fate) (m : List Fate) (n : ℕ) → tally f m n ≡ with_fate f (fate_at m) n
tally_is f m zero = refl
tally_is f m (suc n) = omega (arith, tally_is f m n)

module _ (d : Deal) (any : 0 < d.workers) where
  -- the worker that is dealt want w
  abbrev pub owner : ℕ → ℕ
  owner w = w % d.workers

  pub owner_below : (w : ℕ) → owner w < d.workers
  owner_below w = mod_below w d.workers any

  pub deals_owner : (w : ℕ) → deals_to d (owner w) w ≡ true
  deals_owner w = eq-eqb (owner w) (owner w) refl

  deals_other : (k w : ℕ) → k ≢ owner w → deals_to d k w ≡ false
  deals_other k w apart = ne_eqb (owner w) k (λ e. apart (sym e))

  module _ (f : Fate) (no_open : one_if f fate.Open ≡ 0) (no_kept : one_if f fate.Kept ≡ 0) where
    -- the survey has left no such entry
    one_first : (m : List Fate) (count i : ℕ) → FirstFates m count → i < count → one_if f (fate_at m i) ≡ 0
    one_first m count i firsts inside = elim (firsts i inside) [
      | inl is ↦ ap (one_if f) is ∙ no_open
      | inr is ↦ ap (one_if f) is ∙ no_kept
    ]

    pub none_first : (m : List Fate) (count : ℕ) → FirstFates m count → tally f m count ≡ 0
    none_first m count firsts = tally_is f m count ∙ sum_none (λ i. one_if f (fate_at m i)) count (λ i inside. one_first m count i firsts inside)

    -- each entry is made by its own worker alone
    pub dealt_entries : (m : List Fate) (count : ℕ) → FirstFates m count → (lists : List (List Fate))
        → ((k i : ℕ) → k < d.workers → deals_to d k (want_at d i) ≡ false → known_at lists k i ≡ fate_at m i)
        → with_fate f (λ i. known_at lists (owner (want_at d i)) i) count ≡ sum_below (λ k. with_fate f (known_at lists k) count) d.workers
    dealt_entries m count firsts lists others =
        sum_same (λ i. one_if f (known_at lists (owner (want_at d i)) i)) (λ i. sum_below (λ k. one_if f (known_at lists k i)) d.workers) count
        (λ i inside. sym (sum_only (λ k. one_if f (known_at lists k i)) (owner (want_at d i)) d.workers (owner_below (want_at d i))
        (λ k less apart. ap (one_if f) (others k i less (deals_other k (want_at d i) apart)) ∙ one_first m count i firsts inside)))
        ∙ sum_swap (λ k i. one_if f (known_at lists k i)) count d.workers

    -- each want is dealt to one worker
    pub dealt_wants : (source : ℕ → Fate) (wants : ℕ)
        → sum_below (λ k. sum_below (λ w. one_if f (source_if (deals_to d k) source w)) wants) d.workers ≡ sum_below (λ w. one_if f (source w)) wants
    dealt_wants source wants =
        sym (sum_swap (λ k w. one_if f (source_if (deals_to d k) source w)) wants d.workers)
        ∙ sum_same (λ w. sum_below (λ k. one_if f (source_if (deals_to d k) source w)) d.workers) (λ w. one_if f (source w)) wants
        (λ w less.
        sum_only (λ k. one_if f (source_if (deals_to d k) source w)) (owner w) d.workers (owner_below w)
        (λ k inside apart. ap (λ b. one_if f (if b then source w else fate.Kept)) (deals_other k w apart) ∙ no_kept)
        ∙ ap (λ b. one_if f (if b then source w else fate.Kept)) (deals_owner w))
