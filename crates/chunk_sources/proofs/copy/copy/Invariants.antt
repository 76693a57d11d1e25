use Rattle.std.proofs.Common.{◌≡◌, ℕ, ◌<◌, ◌≤◌, slice_index, true}
use Rattle.dsy_base.specs.Counts.{Rose}
use Rattle.range_survey.specs.Fates.{settled}
use Rattle.chunk_sources.proofs.copy.copy.Given as goal

-- a settled entry that was passed couldn't be read
abbrev pub invariant-loop-entry : goal.invariant-loop-entry
invariant-loop-entry g l =
    let e = g.E.Ledger in
    record {
      kept : e.held l.ledger ≡ e.held l.fn.ledger;
      fates : e.fates l.ledger ≡ e.fates l.fn.ledger;
      faults : e.faults l.fn.ledger ≤ e.faults l.ledger;
      passed : (k : ℕ) → k < l.entry-index → settled (e.fates l.fn.ledger) (slice_index l.entries k) ≡ true →
          Rose (e.faults l.fn.ledger) (e.faults l.ledger);
    }
