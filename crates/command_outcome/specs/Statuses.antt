-- The status that a program ends with.
use Rattle.std.specs.Prelude.{ℕ}
use Rattle.command_outcome.specs.declared.outcome.Outcome.{Outcome}
use Rattle.command_outcome.specs.declared.outcome.Outcome.TheVariants as ends

abbrev pub status_of : Outcome → ℕ
status_of ends.Done = 0
status_of other = 1
