use Rattle.assembler.proofs.EconomyFilled.{share_below}
use Rattle.assembler.proofs.EconomyPaid.{Paid}
use Rattle.assembler.proofs.Passed.{WantsDone}
use Rattle.assembler.specs.Permits.{deals_to}
use Rattle.assembler.specs.Stages.{stage, task}
use Rattle.assembler.proofs.fill.fill.Given as goal

abbrev pub invariant-loop-want : goal.invariant-loop-want
invariant-loop-want g l =
    let t = task g.E.Ledger.run.listing l.wants in
    let a = stage g.E.Ledger g.C.Cache l.fn.work in
    let b = stage g.E.Ledger g.C.Cache l.work in
    let these = deals_to t.plan l.worker in
    record {
      done : WantsDone g.S.Store g.V.View t (share_below these l.want) a b;
      paid : Paid g.S.Store g.V.View t (share_below these l.want) a b;
    }
