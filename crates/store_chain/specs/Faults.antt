-- Counts of the faults of several objects, by their numbers.
use Rattle.std.specs.Prelude.{ℕ, ◌≤◌, List, slice_index}
use Rattle.dsy_base.specs.Counts.{Quiet}

-- no count has fallen
abbrev pub NoneFalls : List ℕ → List ℕ → Type 0
NoneFalls old new = (k : ℕ) → slice_index old k ≤ slice_index new k

-- no count has risen, and none stands at its greatest value
abbrev pub EachQuiet : List ℕ → List ℕ → Type 0
EachQuiet old new = (k : ℕ) → Quiet (slice_index old k) (slice_index new k)
