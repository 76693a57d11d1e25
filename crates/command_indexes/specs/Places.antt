-- What operands name indexes by. A name is its bytes.
use Rattle.std.specs.Prelude.{ℕ, ◌&&◌, Bool, true, not, List, [], ◌∷◌}
use Rattle.command_words.specs.Locations.{is_index_url}

-- the operand is the name of a file
abbrev pub is_file : List ℕ → Bool
is_file q = not (is_index_url q)

abbrev pub are_files : List (List ℕ) → Bool
are_files [] = true
are_files (q ∷ names) = is_file q && are_files names
