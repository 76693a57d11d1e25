-- A set of the ids that indexes list.
use Rattle.std.proofs.Common.{◌≡◌, ℕ, ◌+◌, ◌<◌, List, [], ◌∷◌, ◌++◌, length, take, get_or, Bool, true, cond, ◌||◌, sym, ap, ◌∙◌}
use Rattle.std.proofs.Math.Bool.{or-false, or_assoc}
use Rattle.std.proofs.lemmas.List.{take_more}
use Rattle.std.proofs.lemmas.Map.Text.{is_eq-slice_cmp}
use Rattle.std.specs.Cmp.Lexicographic.{slice_cmp}
use Rattle.std.specs.List.{list_any}
use Rattle.std.specs.Ordering.{nat_cmp, is_eq}
use Rattle.std.specs.Set.{is_member}
use Rattle.std.specs.Str.{bytes_eq}
use Rattle.caibx_codec.specs.Listing.{Listing}
use Rattle.verify_tool.proofs.Distinct.{member_push, or_as_cond, same_either_way}
use Rattle.verify_tool.proofs.Counted.{turn_is}
use Rattle.verify_tool.specs.Pruning.{is_listed_in}
use Rattle.verify_tool.specs.Texts.{ids_of}

any_push : {X : Type 0} (test : X → Bool) (xs : List X) (y : X) → list_any test (xs ++ y ∷ []) ≡ (list_any test xs || test y)
any_push test [] y = or-false (test y)
any_push test (x ∷ xs) y = ap (λ b. test x || b) (any_push test xs y) ∙ sym (or_assoc (test x) (list_any test xs) (test y))

-- one id more is in the set
pub added_more : (ids : List (List ℕ)) (i : ℕ) (x : List ℕ) → i < length ids → x ≡ get_or ids i [] → (q : List ℕ) (first held now : Bool) → held ≡ (first || is_member bytes_eq (take i ids) q)
    → now ≡ cond (is_eq (slice_cmp nat_cmp x q)) true held → now ≡ (first || is_member bytes_eq (take (i + 1) ids) q)
added_more ids i x inside named q first held now before updated =
    let test : is_eq (slice_cmp nat_cmp x q) ≡ bytes_eq q x = is_eq-slice_cmp x q ∙ same_either_way x q in
    updated ∙ ap (λ b. cond b true held) test ∙ or_as_cond held (bytes_eq q x) ∙ ap (λ b. b || bytes_eq q x) before
    ∙ or_assoc first (is_member bytes_eq (take i ids) q) (bytes_eq q x)
    ∙ ap (λ b. first || b) (sym (member_push (take i ids) x q) ∙ ap (λ l. is_member bytes_eq l q) (turn_is ids i x inside named))

-- the ids of one index more are
pub listed_more : (ls : List Listing) (i : ℕ) (l : Listing) → i < length ls → l ≡ get_or ls i l → (q : List ℕ) (held now : Bool) → held ≡ is_listed_in (take i ls) q
    → now ≡ (held || is_member bytes_eq (ids_of l) q) → now ≡ is_listed_in (take (i + 1) ls) q
listed_more ls i l inside at q held now before updated =
    updated ∙ ap (λ b. b || is_member bytes_eq (ids_of l) q) before ∙ sym (any_push (λ k. is_member bytes_eq (ids_of k) q) (take i ls) l)
    ∙ ap (λ ks. is_listed_in ks q) (ap (λ k. take i ls ++ k ∷ []) at ∙ sym (take_more ls i l inside))
