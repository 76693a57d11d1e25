-- Where the entries of an extent lie, and what a write to one of them leaves of the others.
use Rattle.std.proofs.Common.{◌≡◌, ℕ, ◌+◌, ◌<◌, ◌≤◌, List, length, slice_range, sym, subst, ◌∙◌, inl, inr, arith}
use Rattle.std.proofs.lemmas.Bool.{cases_lt, cases_eq}
use Rattle.caibx_codec.specs.Listing.{count_of, end_of, size_of, start_of}
use Rattle.range_ledger.proofs.Slices.{slice_below, slice_above, slice_at, length_written}
use Rattle.range_ledger.specs.Extents.{Extent, IsIn, IsValidExtent, begin_in, end_in, length_in, put_in_extent, slice_in}

module _ (x : Extent) (laid : IsValidExtent x) where
  -- the extent begins no later than each of its entries, and ends no earlier
  pub first_below : (i : ℕ) → x.from ≤ i → i < x.to → start_of x.listing x.from ≤ start_of x.listing i
  first_below i le lt = elim (cases_eq x.from i) [
    | inl same ↦ subst (λ j. start_of x.listing x.from ≤ start_of x.listing j) same (omega arith)
    | inr differ ↦ (
        let before : x.from < i = omega (arith, differ) in
        omega (arith, laid.valid.ordered x.from i before (omega (arith, lt, laid.within)), laid.valid.rises x.from (omega (arith, lt, le, laid.within))))
  ]

  pub last_above : (i : ℕ) → i < x.to → end_of x.listing i ≤ start_of x.listing x.to
  last_above i lt = elim (cases_lt x.to (count_of x.listing)) [
    | inl inner ↦ laid.valid.ordered i x.to lt inner
    | inr past ↦ (
        let all : x.to ≡ count_of x.listing = omega (arith, past, laid.within) in
        subst (λ j. end_of x.listing i ≤ start_of x.listing j) (sym all) (laid.valid.inside i (omega (arith, lt, laid.within))))
  ]

  pub sized : (i : ℕ) → IsIn x i → end_in x i ≡ begin_in x i + size_of x.listing i
  sized i is = omega (arith, first_below i is.from is.to, laid.valid.rises i (omega (arith, is.to, laid.within)))

  pub inside : (i : ℕ) → IsIn x i → begin_in x i + size_of x.listing i ≤ length_in x
  inside i is = omega (arith, first_below i is.from is.to, laid.valid.rises i (omega (arith, is.to, laid.within)), last_above i is.to)

  module _ (i : ℕ) (is : IsIn x i) (b : List ℕ) (size : length b ≡ size_of x.listing i) (t : List ℕ) (long : length t ≡ length_in x) where
    fits : begin_in x i + length b ≤ length t
    fits = omega (arith, inside i is, size, long)

    ends : begin_in x i + length b ≡ end_in x i
    ends = omega (arith, sized i is, size)

    pub put_size : length (put_in_extent x i b t) ≡ length_in x
    put_size = length_written t b (begin_in x i) fits ∙ long

    pub put_here : slice_in x (put_in_extent x i b t) i ≡ b
    put_here = subst (λ z. slice_range (put_in_extent x i b t) (begin_in x i) z ≡ b) ends (slice_at t b (begin_in x i) (omega (arith, fits)))

    pub put_other : (j : ℕ) → IsIn x j → (j ≡ i → ⊥) → slice_in x (put_in_extent x i b t) j ≡ slice_in x t j
    put_other j at differ = elim (cases_lt j i) [
      | inl before ↦ slice_below t b (begin_in x i) (begin_in x j) (end_in x j)
          (omega (arith, sized j at))
          (omega (arith, laid.valid.ordered j i before (omega (arith, is.to, laid.within)), first_below j at.from at.to, first_below i is.from is.to))
          (omega (arith, fits))
      | inr from ↦ (
          let later : i < j = omega (arith, from, differ) in
          slice_above t b (begin_in x i) (begin_in x j) (end_in x j) fits
          (omega (arith, ends, laid.valid.ordered i j later (omega (arith, at.to, laid.within)))))
    ]
