-- The largest of the sizes before one, and with it.
use Rattle.std.proofs.Common.{◌≡◌, ℕ, ◌+◌, ◌<◌, ◌≤◌, ◌⊎◌, inl, inr, sym, ◌∙◌, arith, below_more}

-- `most` is the largest of the first i sizes, or 0 where there is none
abbrev pub Largest : (ℕ → ℕ) → ℕ → ℕ → Type 0
Largest size i most = ((j : ℕ) → j < i → size j ≤ most) × (((j : ℕ) × (j < i) × (size j ≡ most)) ⊎ ((i ≡ 0) × (most ≡ 0)))

module _ (size : ℕ → ℕ) (i most n now : ℕ) (named : n ≡ size i) (before : Largest size i most) where
  pub grows : most < n → now ≡ n → Largest size (i + 1) now
  grows more is =
      let P : ℕ → Type 0 = λ j. size j ≤ now in
      (below_more P i (λ j lt. omega (arith, before.0 j lt)) (omega arith), inl (i, omega arith, sym named ∙ sym is))

  pub stays : 0 < size i → n ≤ most → now ≡ most → Largest size (i + 1) now
  stays some less is =
      let P : ℕ → Type 0 = λ j. size j ≤ now in
      let listed : ((j : ℕ) × (j < i + 1) × (size j ≡ now)) ⊎ ((i + 1 ≡ 0) × (now ≡ 0)) = elim before.1 [
        | inl (j, lt, e) ↦ inl (j, omega arith, e ∙ sym is)
        | inr none ↦ absurd (omega (arith, none.1))
      ] in
      (below_more P i (λ j lt. omega (arith, before.0 j lt)) (omega arith), listed)
