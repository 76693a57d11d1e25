-- What a table says that is told in other words.
use Rattle.std.proofs.Common.{◌≡◌, Bool, true, false, List, [], ◌∷◌, map, Some, option_map, if◌then◌else◌, refl, ap, ◌∙◌, sym}
use Rattle.std.specs.List.{find}
use Rattle.command_words.specs.OptionTable.{first_row}

first_by : {A B T : Type 0} (f : A → B) (p : B → Bool) (s : B → T) (x : A) (xs : List A) (b : Bool)
    → first_row p s (map f xs) ≡ first_row (λ a. p (f a)) (λ a. s (f a)) xs
    → option_map s (if b then Some (f x) else find p (map f xs)) ≡ option_map (λ a. s (f a)) (if b then Some x else find (λ a. p (f a)) xs)
first_by f p s x xs true h = refl
first_by f p s x xs false h = h

first-map : {A B T : Type 0} (f : A → B) (p : B → Bool) (s : B → T) (xs : List A) → first_row p s (map f xs) ≡ first_row (λ a. p (f a)) (λ a. s (f a)) xs
first-map f p s [] = refl
first-map f p s (x ∷ xs) = first_by f p s x xs (p (f x)) (first-map f p s xs)

-- what is found among rows is found among what they say
pub found_as : {A B T : Type 0} (f : A → B) (p : B → Bool) (s : B → T) (rows : List A) (said : List B) → map f rows ≡ said
    → first_row (λ a. p (f a)) (λ a. s (f a)) rows ≡ first_row p s said
found_as f p s rows said e = sym (first-map f p s rows) ∙ ap (first_row p s) e
