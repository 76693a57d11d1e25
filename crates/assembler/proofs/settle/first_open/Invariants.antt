use Rattle.std.proofs.Common.{◌≡◌, ℕ, ◌<◌, slice_index, true}
use Rattle.range_survey.specs.Fates.{settled}
use Rattle.assembler.proofs.settle.first_open.Given as goal

-- each entry that was passed is settled
abbrev pub invariant-loop-entry : goal.invariant-loop-entry
invariant-loop-entry g l = (k : ℕ) → k < l.entry-index → settled (g.E.Ledger.fates l.ledger) (slice_index l.entries k) ≡ true
