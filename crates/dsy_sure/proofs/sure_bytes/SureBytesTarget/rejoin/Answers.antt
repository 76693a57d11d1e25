use Rattle.std.proofs.Common.{◌≤◌, ◌*◌, length, arith}
use Rattle.std.proofs.lemmas.List.Sums.{sum_by-le}
use Rattle.std.specs.List.{sum_by}
use Rattle.dsy_sure.specs.declared.sure_bytes.SureBytes.{SureBytes}
use Rattle.dsy_sure.proofs.sure_bytes.SureBytesTarget.rejoin.Goals as goal

pub returns-clause-faults : goal.returns-clause-faults
returns-clause-faults c =
    let none : sum_by (λ (p : SureBytes). 0) c.args.parts.items ≤ length c.args.parts.items * 0 =
    sum_by-le (λ (p : SureBytes). 0) 0 c.args.parts.items (λ n d lt. omega arith) in
    omega (arith, none)
