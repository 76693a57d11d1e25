use Rattle.std.proofs.Common.{◌≡◌, ℕ, length}
use Rattle.range_ledger.proofs.Counting.{Surveying}
use Rattle.range_ledger.specs.Runs.{Has, IsUnread}
use Rattle.range_survey.specs.Fates.{FirstFates}
use Rattle.range_survey.specs.Zeros.{IsTabled}
use Rattle.range_ledger.proofs.unread.Unread.survey.Given as goal

-- the first k entries were looked at
abbrev pub invariant-loop-k : goal.invariant-loop-k
invariant-loop-k g l =
    (l.self.number ≡ l.fn.self.number) × (l.self.held ≡ l.fn.self.held) × (length l.buf ≡ length l.fn.buf) × IsUnread g.R.RunName.run l.self
    × Surveying g.R.RunName.run l.fn.self l.self.fates l.self.faults l.found l.k
    × ((k : ℕ) → FirstFates l.self.fates k)
    × (((e : ℕ) → Has g.R.RunName.run l.fn.self e → IsTabled l.zeros g.R.RunName.run.listing l.fn.old e) → l.self.faults ≡ l.fn.self.faults)
