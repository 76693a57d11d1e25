use Rattle.std.proofs.Common.{false, sym}
use Rattle.std.proofs.lemmas.Bool.{true≢false}
use Rattle.assembler.proofs.Passed.{done_all, done_none}
use Rattle.assembler.specs.Stages.{Stage, stage, task}
use Rattle.chunk_sources.specs.Wants.{Task}
use Rattle.image_workers.proofs.finish.retry_unless.Goals as goal

pub returns-then-lacked-clause-passes : goal.returns-then-lacked-clause-passes
returns-then-lacked-clause-passes g c =
    let t : Task = task g.E.Ledger.run.listing c.args.wants.now in
    let a : Stage g.row.S.Denot g.row.V.Denot = stage g.E.Ledger g.C.Cache c.args.work.now in
    done_all g.S.Store g.V.View t (λ v. false) a a c.requires.alone (λ v no. absurd (true≢false (sym no))) (done_none g.S.Store g.V.View t c.requires.ready.wants (λ v. false) a)
