-- The file of a chunk in a folder store: the first four digits of its id, `/`, and all 64 digits, in lower case.
use Rattle.std.specs.Prelude.{ℕ, List, ◌∷◌, ◌++◌, take}
use Rattle.hex.specs.Hex.{encode_lower}

unfoldable pub path_of : List ℕ → List ℕ
path_of id = encode_lower (take 2 id) ++ 47 ∷ encode_lower id
