-- A set of ids that grows entry by entry.
use Rattle.std.proofs.Common.{◌≡◌, ℕ, ◌+◌, ◌<◌, List, [], ◌∷◌, ◌++◌, length, take, get_or, Bool, true, false, not, cond, ◌||◌, refl, sym, ap, ◌∙◌, arith, add-one}
use Rattle.std.proofs.Math.Seq.{take-suc}
use Rattle.std.proofs.Math.Bool.{or-false, or_assoc}
use Rattle.std.specs.Cmp.Lexicographic.{slice_cmp}
use Rattle.std.specs.Ordering.{nat_cmp, is_eq}
use Rattle.std.specs.Set.{distinct_count, is_member, unique_keys}
use Rattle.std.specs.Str.{bytes_eq}
use Rattle.std.proofs.lemmas.Map.Text.{is_eq-slice_cmp}
use Rattle.std.proofs.lemmas.Slice.Eq.{bytes_eq-Decides}
use Rattle.std.proofs.lemmas.Bool.Decides.{same_from_decides}

-- the ids before entry i + 1
pub front_is : (ids : List (List ℕ)) (i : ℕ) → i < length ids → take (i + 1) ids ≡ take i ids ++ get_or ids i [] ∷ []
front_is ids i lt = ap (λ k. take k ids) (add-one i) ∙ take-suc ids i [] lt

pub same_either_way : (xs ys : List ℕ) → bytes_eq xs ys ≡ bytes_eq ys xs
same_either_way xs ys =
    let there = bytes_eq-Decides xs ys in
    let back = bytes_eq-Decides ys xs in
    same_from_decides (bytes_eq xs ys) (bytes_eq ys xs) there (λ e. sym (back.0 e), λ e. back.1 (sym e))

pub member_append : (front rest : List (List ℕ)) (q : List ℕ) → is_member bytes_eq (front ++ rest) q ≡ (is_member bytes_eq front q || is_member bytes_eq rest q)
member_append [] rest q = refl
member_append (y ∷ front) rest q = ap (λ b. bytes_eq q y || b) (member_append front rest q) ∙ sym (or_assoc (bytes_eq q y) (is_member bytes_eq front q) (is_member bytes_eq rest q))

pub member_push : (front : List (List ℕ)) (x q : List ℕ) → is_member bytes_eq (front ++ x ∷ []) q ≡ (is_member bytes_eq front q || bytes_eq q x)
member_push front x q = member_append front (x ∷ []) q ∙ ap (λ b. is_member bytes_eq front q || b) (or-false (bytes_eq q x))

pub or_as_cond : (a b : Bool) → cond b true a ≡ (a || b)
or_as_cond true true = refl
or_as_cond true false = refl
or_as_cond false true = refl
or_as_cond false false = refl

-- how many are left of y and those after it, of which `a` says that they have y, `b` that the last is y, and `m` that the
-- others have the last
one_more : (a b m : Bool) (y : List ℕ) (us vs : List (List ℕ)) → (b ≡ true → a ≡ m) → length us ≡ length vs + cond m 0 1
    → length (cond (a || b) us (y ∷ us)) ≡ length (cond a vs (y ∷ vs)) + cond (b || m) 0 1
one_more true true true y us vs same grown = grown
one_more true true false y us vs same grown = let no : true ≡ false = same refl in absurd (cc)
one_more true false m y us vs same grown = grown
one_more false true true y us vs same grown = let no : false ≡ true = same refl in absurd (cc)
one_more false true false y us vs same grown = omega arith
one_more false false m y us vs same grown = omega arith

-- one id more counts where it isn't there
pub count_push : (front : List (List ℕ)) (x : List ℕ) → distinct_count bytes_eq (front ++ x ∷ []) ≡ distinct_count bytes_eq front + cond (is_member bytes_eq front x) 0 1
count_push [] x = refl
count_push (y ∷ front) x =
    let same : bytes_eq x y ≡ true → is_member bytes_eq front y ≡ is_member bytes_eq front x = λ e. ap (is_member bytes_eq front) (sym ((bytes_eq-Decides x y).0 e)) in
    ap (λ b. length (cond b (unique_keys bytes_eq (front ++ x ∷ [])) (y ∷ unique_keys bytes_eq (front ++ x ∷ [])))) (member_push front x y ∙ ap (λ b. is_member bytes_eq front y || b) (same_either_way y x))
    ∙ one_more (is_member bytes_eq front y) (bytes_eq x y) (is_member bytes_eq front x) y (unique_keys bytes_eq (front ++ x ∷ [])) (unique_keys bytes_eq front) same (count_push front x)

by_test : (b : Bool) → ◌≡◌ {A = ℕ} (cond (not b) 1 0) (cond b 0 1)
by_test true = refl
by_test false = refl

-- the set has one id more, and counts it where it wasn't there
module _ (front : List (List ℕ)) (x : List ℕ) where
  pub holds_more : (q : List ℕ) (held now : Bool) → held ≡ is_member bytes_eq front q → now ≡ cond (is_eq (slice_cmp nat_cmp x q)) true held → now ≡ is_member bytes_eq (front ++ x ∷ []) q
  holds_more q held now before updated =
      let test : is_eq (slice_cmp nat_cmp x q) ≡ bytes_eq q x = is_eq-slice_cmp x q ∙ same_either_way x q in
      updated ∙ ap (λ b. cond b true held) test ∙ ap (λ b. cond (bytes_eq q x) true b) before ∙ or_as_cond (is_member bytes_eq front q) (bytes_eq q x) ∙ sym (member_push front x q)

  pub count_more : (held added : Bool) (old new : ℕ) → held ≡ is_member bytes_eq front x → added ≡ not held → old ≡ distinct_count bytes_eq front → new ≡ old + cond added 1 0 → new ≡ distinct_count bytes_eq (front ++ x ∷ [])
  count_more held added old new before fresh counted grown =
      let one : cond added 1 0 ≡ cond (is_member bytes_eq front x) 0 1 = ap (λ b. cond b 1 0) fresh ∙ by_test held ∙ ap (λ b. cond b 0 1) before in
      grown ∙ ap (λ n. n + cond added 1 0) counted ∙ ap (λ n. distinct_count bytes_eq front + n) one ∙ sym (count_push front x)
