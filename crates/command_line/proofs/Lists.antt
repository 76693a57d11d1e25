-- How many words have a role.
use Rattle.std.proofs.Common.{◌≡◌, ℕ, ◌+◌, Bool, true, false, List, [], ◌∷◌, length, ◌==◌, if◌then◌else◌, refl, sym, ◌∙◌, arith}
use Rattle.std.proofs.lemmas.List.Sums.{sum_by-cons}
use Rattle.command_words.specs.Roles.{words_as, role_number, times_of_role}
use Rattle.command_words.specs.declared.roles.Role.{Role}

counted : (r q : Role) (w : List ℕ) (rest : List (List ℕ)) (n : ℕ) (b : Bool) → length rest ≡ n
    → length (if b then w ∷ rest else rest) ≡ (if b then 1 else 0) + n
counted r q w rest n true h = omega (arith, h)
counted r q w rest n false h = omega (arith, h)

-- there are as many words of the role as words have it
pub words_counted : (r : Role) (roles : List Role) (words : List (List ℕ)) → length roles ≡ length words → length (words_as r roles words) ≡ times_of_role r roles
words_counted r [] words e = refl
words_counted r (q ∷ roles) [] e = absurd (omega (arith, e))
words_counted r (q ∷ roles) (w ∷ words) e =
    counted r q w (words_as r roles words) (times_of_role r roles) (role_number q == role_number r) (words_counted r roles words (omega (arith, e)))
    ∙ sym (sum_by-cons (λ p. if role_number p == role_number r then 1 else 0) q roles)
