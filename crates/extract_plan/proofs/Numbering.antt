-- The numbers that ids and sizes have are the wants of an index.
use Rattle.std.proofs.Common.{◌≡◌, ◌≢◌, ℕ, zero, suc, ◌-◌, ◌<◌, ◌≤◌, List, Some, slice_index, ap, sym, ◌∙◌, arith, ⊎_elim}
use Rattle.std.proofs.lemmas.Bool.{cases_eq}
use Rattle.caibx_codec.specs.Listing.{Listing, count_of, id_of, size_of}
use Rattle.extract_plan.specs.Deal.{AreWants}
use Rattle.extract_plan.specs.Found.{AreNumbered}
use Rattle.extract_plan.specs.Keys.{AreKeyed, number_of}
use Rattle.extract_plan.specs.declared.keyed.Keyed.{Keyed}
use Rattle.extract_plan.proofs.Firsts.{entry_known, numbered}

-- the want of an entry isn't greater than the entry's number
low_want : (l : Listing) (wants : ℕ) (want_of : List ℕ) → AreWants l wants want_of → (n i : ℕ) → i < n → i < count_of l → slice_index want_of i ≤ i
low_want l wants want_of h zero i a b = absurd (omega arith)
low_want l wants want_of h (suc n) i a b = ⊎_elim
    (λ (e : slice_index want_of i ≡ 0). omega arith)
    (λ (ne : slice_index want_of i ≢ 0).
    let x = h.ordered i (slice_index want_of i - 1) b (omega arith) in
    let low : slice_index want_of x.0 ≤ x.0 = low_want l wants want_of h n x.0 (omega (arith, x.1)) (omega (arith, x.1)) in
    omega (arith, x.1, x.2))
    (cases_eq (slice_index want_of i) 0)

pub want_below : (l : Listing) (wants : ℕ) (want_of : List ℕ) → AreWants l wants want_of → (i : ℕ) → i < count_of l → slice_index want_of i ≤ i
want_below l wants want_of h i b = low_want l wants want_of h (suc i) i (omega arith) b

pub numbers_are : (l : Listing) (wants : ℕ) (want_of : List ℕ) (xs : List Keyed) → AreWants l wants want_of → AreKeyed l (slice_index want_of) xs →
    AreNumbered l (count_of l) (number_of xs) want_of
numbers_are l wants want_of xs are keyed = record {
  known = λ i a.
      let (n, is) = entry_known l (slice_index want_of) xs keyed i a in
      let e = numbered l (slice_index want_of) xs keyed (id_of l i) (size_of l i) n is in
      is ∙ ap (λ v. Some v) (sym e.number ∙ (are.alike e.entry i e.listed a).1 (e.id_is, e.size_is));
  listed = λ q s v is.
      let e = numbered l (slice_index want_of) xs keyed q s v is in
      (e.entry, e.listed, e.id_is, e.size_is);
}
