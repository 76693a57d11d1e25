use Rattle.std.proofs.Common.{map}
use Rattle.image_workers.specs.Reporting.{CountsFates, reported_at}
use Rattle.image_workers.proofs.counting.report_of.Given as goal

-- the first entries are counted
abbrev pub invariant-loop-entry : goal.invariant-loop-entry
invariant-loop-entry g l = CountsFates (reported_at l.wants.plan.now (map (λ v. v.items) l.known) (g.L.Ledger.fates l.ledger)) l.entry l.report
