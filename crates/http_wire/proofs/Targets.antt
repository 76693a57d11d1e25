-- The target of a request by its first byte.
use Rattle.std.proofs.Common.{◌≡◌, ◌≢◌, ℕ, List, [], ◌∷◌, length, drop, ◌==◌, Bool, true, false, cond, None, refl, ap, ◌∙◌, arith, eq-eqb}
use Rattle.std.proofs.lemmas.Bool.Decides.{nat_tests}
use Rattle.hex.specs.Hex.{decode_sized}
use Rattle.http_wire.specs.Target.{id_in, id_with_target}

pub id_in-none : (t : List ℕ) → length t ≡ 0 → id_in t ≡ None
unfolding id_in
id_in-none [] h = refl
id_in-none (b ∷ bs) h = absurd (omega (arith, h))

cut_at : (b : ℕ) (path : List ℕ) (t : Bool) → (b == 47) ≡ t → id_in (b ∷ path) ≡ cond t (id_with_target path (decode_sized (drop 5 path) 32)) None
unfolding id_in
cut_at b path t is = ap (λ x. cond x (id_with_target path (decode_sized (drop 5 path) 32)) None) is

pub id_in-slash : (t : List ℕ) (b : ℕ) (path : List ℕ) → t ≡ b ∷ path → b ≡ 47 → id_in t ≡ id_with_target path (decode_sized (drop 5 path) 32)
id_in-slash t b path is slash = ap id_in is ∙ cut_at b path true (eq-eqb b 47 slash)

pub id_in-other : (t : List ℕ) (b : ℕ) (path : List ℕ) → t ≡ b ∷ path → b ≢ 47 → id_in t ≡ None
id_in-other t b path is other =
    let test : (b == 47) ≡ false = grind (arith, nat_tests) in
    ap id_in is ∙ cut_at b path false test
