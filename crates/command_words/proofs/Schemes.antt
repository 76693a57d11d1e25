-- `://` in the rest of a word, and what `url` answers.
use Rattle.std.proofs.Common.{◌≡◌, ℕ, ◌+◌, List, [], ◌∷◌, drop, sym, ap, ◌∙◌, refl, false, ◌||◌, codes, nat_eq}
use Rattle.std.proofs.lemmas.List.{drop-drop}
use Rattle.std.specs.List.{starts_with}
use Rattle.command_words.specs.Locations.{contains_scheme}

-- `://` doesn't stand at the front of the rest, so it stands in the rest of that rest or not at all
scheme_later : (w : List ℕ) → starts_with nat_eq w (codes "://") ≡ false → contains_scheme (drop 1 w) ≡ contains_scheme w
scheme_later [] h = refl
scheme_later (c ∷ cs) h = sym (ap (λ b. b || contains_scheme cs) h)

pub scheme_after : (w : List ℕ) (i : ℕ) → starts_with nat_eq (drop i w) (codes "://") ≡ false → contains_scheme (drop (i + 1) w) ≡ contains_scheme (drop i w)
scheme_after w i h = ap contains_scheme (sym (drop-drop 1 i w)) ∙ scheme_later (drop i w) h
