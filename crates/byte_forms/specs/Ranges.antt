-- Pairs of an offset and the number of times that a call on a range with that offset fails.
use Rattle.std.specs.Prelude.{ℕ, ◌-◌, List, Option, Some, None, Bool, nat_lt, nat_le, ◌&&◌, is_some, slice_index_or}
use Rattle.std.specs.Prelude.{slice_set}
use Rattle.std.specs.List.{position}

-- whether the pair makes a call on the range fail
abbrev pub covers : ℕ → ℕ → ℕ × ℕ → Bool
covers at end pair = nat_le at pair.0 && (nat_lt pair.0 end && nat_lt 0 pair.1)

-- whether a call on the range fails
abbrev pub fails_at : List (ℕ × ℕ) → ℕ → ℕ → Bool
fails_at pairs at end = is_some (position (covers at end) pairs)

-- the pairs once the pair at this place made a call fail
abbrev pub ticked : List (ℕ × ℕ) → Option ℕ → List (ℕ × ℕ)
ticked pairs None = pairs
ticked pairs (Some i) = let pair = slice_index_or pairs i (0, 0) in slice_set pairs i (pair.0, pair.1 - 1)

-- the pairs after a call on the range
abbrev pub after_call : List (ℕ × ℕ) → ℕ → ℕ → List (ℕ × ℕ)
after_call pairs at end = ticked pairs (position (covers at end) pairs)
