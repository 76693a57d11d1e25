-- Entries by their keys, in the order of the index and then sorted.
use Rattle.std.proofs.Common.{◌≡◌, ◌≢◌, ℕ, ◌+◌, ◌<◌, List, [], ◌∷◌, ◌++◌, length, get_or, ap, sym, ◌∙◌, subst, arith, ⊎_elim, length-append}
use Rattle.std.specs.List.Sorted.{IsPermutation, IsSorted}
use Rattle.std.proofs.lemmas.Bool.{cases_eq}
use Rattle.std.proofs.lemmas.List.{get_or_append_left, get_or_push}
use Rattle.std.proofs.lemmas.List.Elements.{Contains-get_or}
use Rattle.std.proofs.lemmas.List.Sorted.{All-permutation, Contains-permutation}
use Rattle.caibx_codec.specs.Listing.{Listing, count_of}
use Rattle.extract_plan.specs.Keys.{AreKeyed, IsKeyed, keyed_cmp}
use Rattle.extract_plan.specs.declared.keyed.Keyed.{Keyed}
use Rattle.extract_plan.proofs.KeyOrder.{nothing}

-- the first n entries in their order
pub record AreListed (l : Listing) (f : ℕ → ℕ) (n : ℕ) (xs : List Keyed) : Type 0 where
  pub size : length xs ≡ n
  pub each : (k : ℕ) (d : Keyed) → k < n → IsKeyed l f k (get_or xs k d)

pub listed_none : (l : Listing) (f : ℕ → ℕ) (xs : List Keyed) → xs ≡ [] → AreListed l f 0 xs
listed_none l f xs empty = record { size = ap length empty; each = λ k d h. absurd (omega arith) }

pub listed_more : (l : Listing) (f : ℕ → ℕ) (n : ℕ) (xs : List Keyed) (x : Keyed) → IsKeyed l f n x → AreListed l f n xs → AreListed l f (n + 1) (xs ++ x ∷ [])
listed_more l f n xs x is h = record {
  size = length-append xs (x ∷ []) ∙ ap (λ k. k + 1) h.size;
  each = λ k d a. ⊎_elim
      (λ (e : k ≡ n). subst (λ (y : Keyed). IsKeyed l f k y) (sym (get_or_push xs x d k (h.size ∙ sym e))) (subst (λ (i : ℕ). IsKeyed l f i x) (sym e) is))
      (λ (ne : k ≢ n).
      let size : length xs ≡ n = h.size in
      let below : k < n = omega arith in
      subst (λ (y : Keyed). IsKeyed l f k y) (sym (get_or_append_left xs (x ∷ []) d k (omega arith))) (h.each k d below))
      (cases_eq k n);
}

pub keyed_are : (l : Listing) (f : ℕ → ℕ) (n : ℕ) (xs ys : List Keyed) → n ≡ count_of l → AreListed l f n xs → IsPermutation xs ys → IsSorted keyed_cmp ys → AreKeyed l f ys
keyed_are l f n xs ys all h moved rise =
    let size : length xs ≡ n = h.size in
    record {
      rise = rise;
      each = All-permutation (λ x. (i : ℕ) × IsKeyed l f i x) xs ys moved (λ k d a. (k, h.each k d (omega arith)));
      every = λ i listed.
          let x = get_or xs i nothing in
          (x, Contains-permutation xs ys x moved (Contains-get_or xs i nothing (omega arith)), h.each i nothing (omega arith));
    }
