-- A line that is put together in room taken before.
use Rattle.std.specs.Prelude.{◌≡◌, ℕ, ◌+◌, ◌<◌, ◌≤◌, List, ◌++◌, length, Result, OnOk, OnErr}
use Rattle.command_outcome.specs.ErrorLines.{name_in}
use Rattle.command_outcome.specs.declared.outcome.Outcome.{Outcome}

-- what stands in the line, and how many bytes it has room for
pub record Written : Type 0 where
  pub text : List ℕ
  pub room : ℕ

-- the text, of at most this many bytes, stands behind what stood there; it doesn't only where they had no room
pub record AddsToLine {A E : Type 0} (text : List ℕ) (most : ℕ) (old new : Written) (r : Result A E) : Type 0 where
  pub ok : OnOk r (new.text ≡ old.text ++ text)
  pub short : OnOk r (length new.text ≤ length old.text + most)
  pub room : old.room ≤ new.room
  pub full : OnErr r (old.room < length old.text + most)

-- the name that the outcome tells, and 256 bytes besides, are no more than the line has room for, and the sink
pub record FitsIn (o : Outcome) (room sink_room : ℕ) : Type 0 where
  pub line : length (name_in o) + 256 ≤ room
  pub sink : length (name_in o) + 256 ≤ sink_room
