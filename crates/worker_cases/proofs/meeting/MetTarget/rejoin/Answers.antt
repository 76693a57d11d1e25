use Rattle.std.proofs.Common.{◌≤◌, ◌*◌, length, arith}
use Rattle.std.proofs.lemmas.List.Sums.{sum_by-le}
use Rattle.std.specs.List.{sum_by}
use Rattle.worker_cases.specs.declared.meeting.Met.{Met}
use Rattle.worker_cases.proofs.meeting.MetTarget.rejoin.Goals as goal

pub returns-clause-faults : goal.returns-clause-faults
returns-clause-faults c =
    let none : sum_by (λ (p : Met). 0) c.args.parts.items ≤ length c.args.parts.items * 0 =
    sum_by-le (λ (p : Met). 0) 0 c.args.parts.items (λ n d lt. omega arith) in
    omega (arith, none)
