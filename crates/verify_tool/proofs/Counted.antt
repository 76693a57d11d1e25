-- The ids that pass a test, counted entry by entry.
use Rattle.std.proofs.Common.{◌≡◌, ℕ, ◌+◌, ◌<◌, ◌≤◌, List, [], ◌∷◌, ◌++◌, length, take, get_or, Bool, true, false, not, cond, ◌&&◌, refl, sym, ap, ◌∙◌, arith, length-take}
use Rattle.std.specs.Cmp.{IsEquivalence}
use Rattle.std.specs.Cmp.Lexicographic.{slice_cmp}
use Rattle.std.specs.List.{filter}
use Rattle.std.specs.Ordering.{nat_cmp, is_eq}
use Rattle.std.specs.Set.{distinct_count, is_member}
use Rattle.std.specs.Str.{bytes_eq}
use Rattle.std.proofs.Math.Bool.{and-true}
use Rattle.std.proofs.lemmas.List.{append-nil}
use Rattle.std.proofs.lemmas.List.Elements.{filter-append}
use Rattle.std.proofs.lemmas.Map.Made.{is_member-filter, distinct_count-le}
use Rattle.std.proofs.lemmas.Slice.Eq.{bytes_eq-Decides}
use Rattle.verify_tool.proofs.Distinct.{same_either_way, front_is, holds_more, count_more}

bytes_eq_equiv : IsEquivalence bytes_eq
bytes_eq_equiv = record {
  refl = λ x. (bytes_eq-Decides x x).1 refl;
  symm = same_either_way;
  congr = λ x y z e. ap (λ w. bytes_eq w z) ((bytes_eq-Decides x y).0 e);
}

-- an id that passes is among those that pass where it is among all
member_passes : (p : List ℕ → Bool) (x : List ℕ) (front : List (List ℕ)) → p x ≡ true → is_member bytes_eq (filter p front) x ≡ is_member bytes_eq front x
member_passes p x front passes =
    is_member-filter bytes_eq_equiv p x (λ y e. ap p ((bytes_eq-Decides x y).0 e)) front
    ∙ ap (λ b. is_member bytes_eq front x && b) passes ∙ and-true (is_member bytes_eq front x)

adds_nothing : (added : Bool) (n : ℕ) → n + cond (added && false) 1 0 ≡ n
adds_nothing true n = omega arith
adds_nothing false n = omega arith

-- one id more: it counts where it is new and passes
passes_more : (p : List ℕ → Bool) (x : List ℕ) (front : List (List ℕ)) (held added : Bool) (n more : ℕ) (b : Bool) → p x ≡ b → held ≡ is_member bytes_eq front x → added ≡ not held
    → n ≡ distinct_count bytes_eq (filter p front) → more ≡ cond (added && b) 1 0 → n + more ≡ distinct_count bytes_eq (filter p front ++ cond b (x ∷ []) [])
passes_more p x front held added n more true passes before fresh counted grown =
    count_more (filter p front) x held added n (n + more) (before ∙ sym (member_passes p x front passes)) fresh counted
    (ap (λ k. n + k) (grown ∙ ap (λ c. cond c 1 0) (and-true added)))
passes_more p x front held added n more false passes before fresh counted grown =
    ap (λ k. n + k) grown ∙ (adds_nothing added n ∙ counted) ∙ ap (distinct_count bytes_eq) (sym (append-nil (filter p front)))

-- after one turn of the loop
pub turn_is : (ids : List (List ℕ)) (i : ℕ) (x : List ℕ) → i < length ids → x ≡ get_or ids i [] → take i ids ++ x ∷ [] ≡ take (i + 1) ids
turn_is ids i x inside named = ap (λ d. take i ids ++ d ∷ []) named ∙ sym (front_is ids i inside)

pub turn_holds : (ids : List (List ℕ)) (i : ℕ) (x : List ℕ) → i < length ids → x ≡ get_or ids i [] → (q : List ℕ) (held now : Bool) → held ≡ is_member bytes_eq (take i ids) q
    → now ≡ cond (is_eq (slice_cmp nat_cmp x q)) true held → now ≡ is_member bytes_eq (take (i + 1) ids) q
turn_holds ids i x inside named q held now before updated = holds_more (take i ids) x q held now before updated ∙ ap (λ l. is_member bytes_eq l q) (turn_is ids i x inside named)

module _ (ids : List (List ℕ)) (i : ℕ) (x : List ℕ) (inside : i < length ids) (named : x ≡ get_or ids i []) (held added : Bool) (before : held ≡ is_member bytes_eq (take i ids) x) (fresh : added ≡ not held) where
  pub turn_counts : (old new : ℕ) → old ≡ distinct_count bytes_eq (take i ids) → new ≡ old + cond added 1 0 → new ≡ distinct_count bytes_eq (take (i + 1) ids)
  turn_counts old new counted grown = count_more (take i ids) x held added old new before fresh counted grown ∙ ap (distinct_count bytes_eq) (turn_is ids i x inside named)

  pub turn_at_most : (n more : ℕ) → n ≤ distinct_count bytes_eq (take i ids) → more ≤ cond added 1 0 → n + more ≤ distinct_count bytes_eq (take (i + 1) ids)
  turn_at_most n more below little =
      let old = distinct_count bytes_eq (take i ids) in
      let grown : old + cond added 1 0 ≡ distinct_count bytes_eq (take (i + 1) ids) = turn_counts old (old + cond added 1 0) refl refl in
      omega (arith, below, little, grown)

  pub turn_passes : (p : List ℕ → Bool) (n more : ℕ) → n ≡ distinct_count bytes_eq (filter p (take i ids)) → more ≡ cond (added && p x) 1 0 → n + more ≡ distinct_count bytes_eq (filter p (take (i + 1) ids))
  turn_passes p n more counted grown =
      passes_more p x (take i ids) held added n more (p x) refl before fresh counted grown
      ∙ ap (distinct_count bytes_eq) (sym (filter-append p (take i ids) (x ∷ []))) ∙ ap (λ l. distinct_count bytes_eq (filter p l)) (turn_is ids i x inside named)

-- no more than there were entries
pub few_counted : (ids : List (List ℕ)) (i n : ℕ) → n ≤ distinct_count bytes_eq (take i ids) → n ≤ i
few_counted ids i n below = omega (arith, below, distinct_count-le bytes_eq (take i ids), length-take i ids)
