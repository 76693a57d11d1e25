-- The target of a request by its first byte, and the bytes of a name.
use Rattle.std.proofs.Common.{◌≡◌, ◌≢◌, ℕ, ◌<◌, ◌≤◌, List, [], ◌∷◌, length, ◌==◌, ◌&&◌, not, Bool, true, false, cond, nat_eq, nat_lt, nat_le, codes, Option, None, refl, ap, ◌∙◌, arith, eq-eqb}
use Rattle.std.proofs.lemmas.Bool.Decides.{nat_tests}
use Rattle.std.proofs.lemmas.List.Sums.{AllPass-from_list_all}
use Rattle.std.proofs.lemmas.Str.Ascii.{IsAscii-from_all}
use Rattle.std.specs.List.{ends_with, list_all, starts_with}
use Rattle.std.specs.Str.{IsAscii}
use Rattle.http_wire.specs.IndexTarget.{ending, index_name, is_index_name, is_name_byte, name_in_target}

pub name_in_target-none : (t : List ℕ) → length t ≡ 0 → name_in_target t ≡ None
unfolding name_in_target
name_in_target-none [] h = refl
name_in_target-none (b ∷ bs) h = absurd (omega (arith, h))

cut_at : (b : ℕ) (name : List ℕ) (t : Bool) → (b == 47) ≡ t → name_in_target (b ∷ name) ≡ cond t (index_name name) None
unfolding name_in_target
cut_at b name t is = ap (λ x. cond x (index_name name) None) is

pub name_in_target-slash : (t : List ℕ) (b : ℕ) (name : List ℕ) → t ≡ b ∷ name → b ≡ 47 → name_in_target t ≡ index_name name
name_in_target-slash t b name is slash = ap name_in_target is ∙ cut_at b name true (eq-eqb b 47 slash)

pub name_in_target-other : (t : List ℕ) (b : ℕ) (name : List ℕ) → t ≡ b ∷ name → b ≢ 47 → name_in_target t ≡ None
name_in_target-other t b name is other =
    let test : (b == 47) ≡ false = grind (arith, nat_tests) in
    ap name_in_target is ∙ cut_at b name false test

name_byte_ascii : (b : ℕ) → is_name_byte b ≡ true → b < 128
unfolding is_name_byte
name_byte_ascii b h = grind (arith, nat_tests)

last_of : (a b c d e : Bool) → (a && b && c && d && e) ≡ true → e ≡ true
last_of true true true true true h = refl
last_of false b c d e h = absurd (cc)
last_of true false c d e h = absurd (cc)
last_of true true false d e h = absurd (cc)
last_of true true true false e h = absurd (cc)
last_of true true true true false h = absurd (cc)

pub name_ascii : (q : List ℕ) → is_index_name q ≡ true → IsAscii q
unfolding is_index_name
name_ascii q h =
    let all_hold = last_of (nat_lt (length ending) (length q)) (nat_le (length q) 128) (not (starts_with nat_eq q (codes "."))) (ends_with nat_eq q ending) (list_all is_name_byte q) in
    IsAscii-from_all q (λ k d lt. name_byte_ascii _ (AllPass-from_list_all is_name_byte q (all_hold h) k d lt))
