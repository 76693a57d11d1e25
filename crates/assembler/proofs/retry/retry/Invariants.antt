use Rattle.assembler.proofs.EconomyPaid.{Paid}
use Rattle.assembler.proofs.Lost.{LostTried}
use Rattle.assembler.proofs.Passed.{WantsDone}
use Rattle.assembler.proofs.Tried.{Tries, is_tried}
use Rattle.assembler.specs.Stages.{stage, task}
use Rattle.assembler.proofs.retry.retry.Given as goal

abbrev pub invariant-loop-entry : goal.invariant-loop-entry
invariant-loop-entry g l =
    let t = task g.E.Ledger.run.listing l.wants in
    let a = stage g.E.Ledger g.C.Cache l.fn.work in
    let b = stage g.E.Ledger g.C.Cache l.work in
    record {
      done : WantsDone g.S.Store g.V.View t (is_tried l.tried.items) a b;
      tries : Tries t.plan (LostTried g.S.Store g.V.View t l.tried.items a b) b.fates l.tried.items l.first l.entry;
      paid : Paid g.S.Store g.V.View t (is_tried l.tried.items) a b;
    }
