-- The place of the last such byte.
use Rattle.std.proofs.Common.{◌≡◌, ◌≢◌, ℕ, zero, suc, ◌<◌, ◌≤◌, inl, inr, List, length, get_or, sym, ap, ◌∙◌, arith, refl, eq-eqb, ne_eqb, Option, Some, None, MatchOption}
use Rattle.std.specs.Str.{IsCharBoundary}
use Rattle.std.specs.Str.Pattern.{RFindsChar}
use Rattle.std.specs.Path.{rfind_below}
use Rattle.std.proofs.lemmas.Bool.{cond-true, cond-false, cases_eq}
use Rattle.std.proofs.lemmas.Str.Pattern.{rfind_char}

below_none : (c : ℕ) (text : List ℕ) (n : ℕ) → ((i : ℕ) → i < n → get_or text i 0 ≢ c) → rfind_below c text n ≡ None
below_none c text zero h = refl
below_none c text (suc n) h = cond-false _ _ _ (ne_eqb _ c (h n (omega arith))) ∙ below_none c text n (λ i l. h i (omega arith))

below_some : (c : ℕ) (text : List ℕ) (k n : ℕ) → k < n → get_or text k 0 ≡ c → ((i : ℕ) → k < i → i < n → get_or text i 0 ≢ c) → rfind_below c text n ≡ Some k
below_some c text k zero l at h = absurd (omega arith)
below_some c text k (suc n) l at h = elim (cases_eq k n) [
  | inl here ↦ cond-true _ _ _ (eq-eqb _ c (ap (λ j. get_or text j 0) (sym here) ∙ at)) ∙ ap Some (sym here)
  | inr other ↦ cond-false _ _ _ (ne_eqb _ c (h n (omega arith) (omega arith))) ∙ below_some c text k n (omega arith) at (λ i a b. h i a (omega arith))
]

found : (c : ℕ) (text : List ℕ) (r : Option ℕ)
    → MatchOption r ((i : ℕ) → i < length text → get_or text i 0 ≢ c) (λ k. (k < length text) × (get_or text k 0 ≡ c) × ((i : ℕ) → k < i → i < length text → get_or text i 0 ≢ c))
    → r ≡ rfind_below c text (length text)
found c text None h = sym (below_none c text (length text) h)
found c text (Some k) h = sym (below_some c text k (length text) h.0 h.1 h.2)

-- what `rfind` answers of an ASCII character
pub last_is : (c : ℕ) (text : List ℕ) (r : Option ℕ)
    → MatchOption r (RFindsChar c text None) (λ i. (j : ℕ) × RFindsChar c text (Some (i, j)) × (i ≤ j) × IsCharBoundary text i × IsCharBoundary text j)
    → c < 128 → r ≡ rfind_below c text (length text)
last_is c text r h low = found c text r (rfind_char c text r h low)
