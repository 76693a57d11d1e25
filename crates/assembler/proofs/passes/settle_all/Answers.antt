use Rattle.std.proofs.Common.{◌<◌, refl, inl, inr}
use Rattle.assembler.proofs.Adding.{alone_lists}
use Rattle.assembler.proofs.HadOn.{permits_on}
use Rattle.assembler.proofs.OneWorker.{exactly_alone, left_alone, passed_alone}
use Rattle.assembler.proofs.Stepped.{alone_since, ready_on, suits_since}
use Rattle.assembler.proofs.TwoPasses.{memory_apart}
use Rattle.assembler.proofs.WholePasses.{ends_both, exactly_both, passed_both, passed_once}
use Rattle.assembler.specs.Passes.{HasPassed, one_pass}
use Rattle.assembler.specs.Stages.{stage, task}
use Rattle.chunk_sources.specs.AnyCaches.{seen_in}
use Rattle.assembler.proofs.passes.settle_all.Given.{Over}
use Rattle.assembler.proofs.passes.settle_all.Goals.{After-fill}
use Rattle.assembler.proofs.passes.settle_all.Goals as goal

-- the first pass is one over all wants
first : (g : Over) (c : After-fill g) → HasPassed g.S.Store g.V.View (task g.E.Ledger.run.listing c.args.wants.now) one_pass (stage g.E.Ledger g.C.Cache c.args.work.now)
    (stage g.E.Ledger g.C.Cache c.fill.new.work)
first g c = passed_alone g.S.Store g.V.View (task g.E.Ledger.run.listing c.args.wants.now) c.requires.workers (stage g.E.Ledger g.C.Cache c.args.work.now)
    (stage g.E.Ledger g.C.Cache c.fill.new.work) c.requires.alone c.fill.ensures.passes

pub fill-requires-clause-may : goal.fill-requires-clause-may
fill-requires-clause-may g c = λ w less dealt. c.requires.may w less tt

pub retry-requires-clause-ready : goal.retry-requires-clause-ready
retry-requires-clause-ready g c =
    ready_on g.S.Store g.V.View (task g.E.Ledger.run.listing c.args.wants.now) (λ w. w < c.args.wants.now.plan.now.wants) (stage g.E.Ledger g.C.Cache c.args.work.now)
    (stage g.E.Ledger g.C.Cache c.fill.new.work) (first g (goal.at.retry-requires-clause-ready g c).After-fill).stretch c.requires.ready

pub retry-requires-clause-suits : goal.retry-requires-clause-suits
retry-requires-clause-suits g c =
    suits_since g.S.Store g.V.View (task g.E.Ledger.run.listing c.args.wants.now) g.C.Cache (λ w. w < c.args.wants.now.plan.now.wants) (stage g.E.Ledger g.C.Cache c.args.work.now)
    (stage g.E.Ledger g.C.Cache c.fill.new.work) (first g (goal.at.retry-requires-clause-suits g c).After-fill).stretch c.requires.suits

pub retry-requires-clause-alone : goal.retry-requires-clause-alone
retry-requires-clause-alone g c =
    alone_since g.S.Store g.V.View (task g.E.Ledger.run.listing c.args.wants.now) (λ w. w < c.args.wants.now.plan.now.wants) (stage g.E.Ledger g.C.Cache c.args.work.now)
    (stage g.E.Ledger g.C.Cache c.fill.new.work) (first g (goal.at.retry-requires-clause-alone g c).After-fill).stretch c.requires.alone

pub retry-requires-clause-may : goal.retry-requires-clause-may
retry-requires-clause-may g c =
    let passed = first g (goal.at.retry-requires-clause-may g c).After-fill in
    permits_on (task g.E.Ledger.run.listing c.args.wants.now) c.requires.ready.wants g.S.Store g.V.View (λ w. w < c.args.wants.now.plan.now.wants) (λ _. Unit {0}) g.E.Ledger.run.may
    (stage g.E.Ledger g.C.Cache c.args.work.now) (stage g.E.Ledger g.C.Cache c.fill.new.work) passed.stretch passed.had c.requires.may

pub returns-in-Ok-clause-passes : goal.returns-in-Ok-clause-passes
returns-in-Ok-clause-passes g c =
    passed_both g.S.Store g.V.View (task g.E.Ledger.run.listing c.args.wants.now) c.requires.ready.wants (stage g.E.Ledger g.C.Cache c.args.work.now)
    (stage g.E.Ledger g.C.Cache c.fill.new.work) (stage g.E.Ledger g.C.Cache c.retry.new.work) (first g (goal.at.returns-in-Ok-clause-passes g c).After-fill) c.retry.ensures.passes

pub returns-in-Ok-clause-ends : goal.returns-in-Ok-clause-ends
returns-in-Ok-clause-ends g c =
    ends_both g.S.Store g.V.View (task g.E.Ledger.run.listing c.args.wants.now) c.requires.ready.wants (stage g.E.Ledger g.C.Cache c.args.work.now)
    (stage g.E.Ledger g.C.Cache c.fill.new.work) (stage g.E.Ledger g.C.Cache c.retry.new.work) (first g (goal.at.returns-in-Ok-clause-ends g c).After-fill) c.retry.ensures.passes c.retry.result c.retry.ensures.ends

pub returns-in-Ok-clause-exactly : goal.returns-in-Ok-clause-exactly
returns-in-Ok-clause-exactly g c =
    exactly_both g.S.Store g.V.View (task g.E.Ledger.run.listing c.args.wants.now) c.requires.ready.wants (stage g.E.Ledger g.C.Cache c.args.work.now)
    (stage g.E.Ledger g.C.Cache c.fill.new.work) (stage g.E.Ledger g.C.Cache c.retry.new.work) (first g (goal.at.returns-in-Ok-clause-exactly g c).After-fill) c.retry.ensures.passes c.retry.result c.requires.alone
    (exactly_alone g.S.Store g.V.View (task g.E.Ledger.run.listing c.args.wants.now) c.requires.workers (stage g.E.Ledger g.C.Cache c.args.work.now)
    (stage g.E.Ledger g.C.Cache c.fill.new.work) (c.in-Ok.ensures.exactly c.requires.alone))
    (left_alone g.S.Store g.V.View (task g.E.Ledger.run.listing c.args.wants.now) c.requires.workers (stage g.E.Ledger g.C.Cache c.args.work.now)
    (stage g.E.Ledger g.C.Cache c.fill.new.work) (c.in-Ok.ensures.left (alone_lists g.S.Store g.E.Ledger.run.listing c.args.work.now.kit.chain.stores (seen_in g.C.Cache c.args.work.now.cache) c.requires.alone)))
    c.retry.ensures.exactly

pub returns-in-Err-clause-passes : goal.returns-in-Err-clause-passes
returns-in-Err-clause-passes g c =
    passed_once g.S.Store g.V.View (task g.E.Ledger.run.listing c.args.wants.now) c.requires.ready.wants (stage g.E.Ledger g.C.Cache c.args.work.now)
    (stage g.E.Ledger g.C.Cache c.fill.new.work) (first g (goal.at.returns-in-Err-clause-passes g c).After-fill)

pub returns-in-Err-clause-ends : goal.returns-in-Err-clause-ends
returns-in-Err-clause-ends g c = record {
  ok = tt;
  first = inr (inr refl);
  failed = λ is. absurd (memory_apart is);
  left = inl refl;
  memory = λ is. c.in-Err.ensures.memory;
}
