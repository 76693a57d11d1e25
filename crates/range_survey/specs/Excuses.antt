-- The entries that failed calls excuse. An object's count of faults goes from old to new.
use Rattle.std.specs.Prelude.{ℕ, ◌+◌, ◌^◌, ◌≤◌, ◌⊎◌, List, length}

-- these entries are no more than the calls that failed: their number is at most that by which the count has risen, or
-- the count stands at its greatest value. Which call failed on which entry isn't said. Lists of two calls are appended
abbrev pub Excuses : List ℕ → ℕ → ℕ → Type 0
Excuses failed old new = (length failed + old ≤ new) ⊎ (2 ^ 64 ≤ new + 1)
