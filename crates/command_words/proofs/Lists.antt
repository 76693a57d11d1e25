-- The words of a list of texts, those of one role, and the first that passes a test.
use Rattle.std.proofs.Common.{◌≡◌, ℕ, zero, suc, ◌+◌, ◌-◌, ◌<◌, ◌≤◌, Bool, if◌then◌else◌, Some, None, find, List, [], ◌∷◌, length, get_or, map, drop, String, string_bytes, sym, ap, ap₂, ◌∙◌, arith, eq-eqb, ne_eqb}
use Rattle.std.proofs.lemmas.Bool.{cond-true, cond-false}
use Rattle.std.proofs.lemmas.List.{drop_more, at_drop_all}
use Rattle.std.specs.List.{range_with_len}
use Rattle.command_words.specs.Roles.{words_as, role_number}
use Rattle.command_words.specs.declared.roles.Role.{Role}

-- the bytes of the word at a place
pub word_is : {Y : Type 0} (words : List (String Y)) (i : ℕ) (x : String Y) → i < length words → x ≡ get_or words i x → get_or (map string_bytes words) i [] ≡ string_bytes x
word_is [] i x lt is = absurd (omega arith)
word_is (w ∷ ws) zero x lt is = ap string_bytes (sym is)
word_is (w ∷ ws) (suc i) x lt is = word_is ws i x (omega arith) is

-- both lists from a place on
both_from : (r d : Role) (roles : List Role) (words : List (List ℕ)) (i : ℕ) → i < length roles → i < length words
    → words_as r (drop i roles) (drop i words) ≡ words_as r (get_or roles i d ∷ drop (i + 1) roles) (get_or words i [] ∷ drop (i + 1) words)
both_from r d roles words i a b = ap₂ (words_as r) (drop_more roles i d a) (drop_more words i [] b)

-- the word at a place is the next of the role, or isn't one of it
pub word_taken : (r d : Role) (roles : List Role) (words : List (List ℕ)) (i : ℕ) → i < length roles → i < length words
    → role_number (get_or roles i d) ≡ role_number r
    → words_as r (drop i roles) (drop i words) ≡ get_or words i [] ∷ words_as r (drop (i + 1) roles) (drop (i + 1) words)
word_taken r d roles words i a b same = both_from r d roles words i a b ∙ cond-true _ _ _ (eq-eqb (role_number (get_or roles i d)) (role_number r) same)

pub word_left : (r d : Role) (roles : List Role) (words : List (List ℕ)) (i : ℕ) → i < length roles → i < length words
    → (role_number (get_or roles i d) ≡ role_number r → ⊥)
    → words_as r (drop i roles) (drop i words) ≡ words_as r (drop (i + 1) roles) (drop (i + 1) words)
word_left r d roles words i a b other = both_from r d roles words i a b ∙ cond-false _ _ _ (ne_eqb (role_number (get_or roles i d)) (role_number r) other)

-- past the last there is none
pub words_none : (r : Role) (roles : List Role) (words : List (List ℕ)) (i : ℕ) → length roles ≤ i → words_as r (drop i roles) (drop i words) ≡ []
words_none r roles words i le = at_drop_all (λ rest. words_as r rest (drop i words)) roles i le

-- the later place among all is the place before it among the others
pub skip_one : (all rest : List (List ℕ)) (w : List ℕ) (n m : ℕ) → all ≡ w ∷ rest → n ≡ suc m → get_or rest m [] ≡ get_or all n []
skip_one all rest w n m e h = sym (ap₂ (λ l k. get_or l k []) e h)

-- ---- the first number that passes a test

-- the first number decides, or those after it
pub find_from : (p : ℕ → Bool) (i n : ℕ) → i < n → find p (range_with_len i (n - i)) ≡ (if p i then Some i else find p (range_with_len (i + 1) (n - (i + 1))))
find_from p i n lt =
    let m : n - i ≡ suc (n - (i + 1)) = omega (arith, lt) in
    ap (λ k. find p (range_with_len i k)) m

pub find_ended : (p : ℕ → Bool) (i n : ℕ) → n ≤ i → find p (range_with_len i (n - i)) ≡ None
find_ended p i n le =
    let m : n - i ≡ 0 = omega (arith, le) in
    ap (λ k. find p (range_with_len i k)) m
