use Rattle.std.proofs.Common.{◌≡◌, ◌∙◌, ℕ, Result, Ok, Err, OnOk, sym, ap, subst}
use Rattle.assembler.proofs.Others.{seen_alone}
use Rattle.assembler.specs.Passes.{HasPassed, one_pass}
use Rattle.assembler.specs.Stages.{Stage, task}
use Rattle.assembler.specs.declared.fault.ExtractFault.{ExtractFault}
use Rattle.assembler.specs.declared.fault.ExtractFault.TheVariants as faults
use Rattle.chunk_sources.specs.Caches.{seen}
use Rattle.chunk_sources.specs.Sources.{sources}
use Rattle.chunk_sources.specs.Wants.{Task}
use Rattle.dsy_base.specs.Bytes.{Held}
use Rattle.image_workers.proofs.Beside.{beside_err, beside_ok}
use Rattle.image_workers.specs.Beside.{AssembledBeside, joined_stage}
use Rattle.image_workers.proofs.finish.finish.Goals.{in-Ok, in-Err}
use Rattle.image_workers.proofs.finish.finish.Goals as goal

all_of : {P : Type 0} (r : Result Unit ExtractFault) (u : Unit) → r ≡ Ok u → OnOk r P → P
all_of {P} r u is says = subst (λ q. OnOk q P) is says

pub returns-clause-assembled : goal.returns-clause-assembled
returns-clause-assembled g c = λ o given old comes.
    let r = g.R.RunName.run in
    let d = c.args.wants.now.plan.now in
    let x = c.args.wants.now.places.now in
    let t : Task = record { listing = r.listing; plan = d; places = x } in
    let work = c.retry_unless.new.work in
    let w = c.args.shards in
    let c1 = seen g.F.Look c.args.cache in
    let b : Stage g.row.S.Denot g.row.V.Denot = record { held = work.ledger.held; faults = work.ledger.faults; fates = work.ledger.fates; kit = work.kit; cache = seen g.F.Look work.cache } in
    let res = c.retry_unless.result in
    let from_kit : ℕ → _ = λ n. sources n work.kit.seeds.items (seen g.F.Look work.cache) work.kit.chain in
    subst (λ (h : Held). AssembledBeside g.S.Store g.V.View r t o h.bytes old c1 (from_kit (g.T.View.faults c.into_target.result)) c.match-retry_unless.answer) (sym c.into_target.ensures.held)
    (subst (λ (n : ℕ). AssembledBeside g.S.Store g.V.View r t o b.held.bytes old c1 (from_kit n) c.match-retry_unless.answer) (sym c.into_target.ensures.faults)
    (elim c.match-retry_unless.branch [
      | in-Ok q ↦ rw q.answer-is (beside_ok g.S.Store g.V.View r d x o given old w c1 c.args.kit b res c.requires.ready.wants (seen_alone g.F.Look c.args.cache) comes c.requires.faults c.rules.ensures.bytes c.rules.ensures.size c.requires.kept
          c.retry_unless.ensures.passes c.retry_unless.ensures.ends q.in-Ok.field-0 q.in-Ok.is q.report_of.result)
      | in-Err q ↦ rw q.answer-is (beside_err g.S.Store g.V.View r d x o given old w c1 c.args.kit b res c.requires.ready.wants (seen_alone g.F.Look c.args.cache) comes c.requires.faults c.rules.ensures.bytes c.rules.ensures.size c.requires.kept
          c.retry_unless.ensures.passes c.retry_unless.ensures.ends q.in-Err.fault q.in-Err.is)
    ]))

pub returns-clause-passed : goal.returns-clause-passed
returns-clause-passed g c =
    let t : Task = task g.R.RunName.run.listing c.args.wants.now in
    let work = c.retry_unless.new.work in
    let n = work.ledger.fates in
    let a = joined_stage c.args.shards (seen g.F.Look c.args.cache) c.args.kit in
    let stood : Held → ℕ → Stage g.row.S.Denot g.row.V.Denot = λ h f. record { held = h; faults = f; fates = n; kit = work.kit; cache = seen g.F.Look work.cache } in (
      n,
      subst (λ (h : Held). HasPassed g.S.Store g.V.View t one_pass a (stood h (g.T.View.faults c.into_target.result))) (sym c.into_target.ensures.held)
          (subst (λ (f : ℕ). HasPassed g.S.Store g.V.View t one_pass a (stood work.ledger.held f)) (sym c.into_target.ensures.faults) c.retry_unless.ensures.passes),
    )

pub returns-clause-report : goal.returns-clause-report
returns-clause-report g c = elim c.match-retry_unless.branch [
  | in-Ok w ↦
      rw w.answer-is (w.report_of.ensures.all (all_of c.retry_unless.result w.in-Ok.field-0 w.in-Ok.is c.retry_unless.ensures.ends.ok))
  | in-Err w ↦ rw w.answer-is tt
]

pub returns-clause-counts : goal.returns-clause-counts
returns-clause-counts g c = (
  c.retry_unless.new.work.ledger.fates,
  elim c.match-retry_unless.branch [
    | in-Ok w ↦ rw w.answer-is w.report_of.ensures.counts
    | in-Err w ↦ rw w.answer-is tt
  ],
)

pub returns-clause-memory : goal.returns-clause-memory
returns-clause-memory g c = λ is. elim c.match-retry_unless.branch [
  | in-Ok w ↦ let never : Ok w.report_of.result ≡ Err faults.Memory = sym w.answer-is ∙ is in absurd (cc)
  | in-Err w ↦
      let why : Err w.in-Err.fault ≡ Err faults.Memory = sym w.answer-is ∙ is in
      let same : w.in-Err.fault ≡ faults.Memory = cc in
      c.retry_unless.ensures.ends.memory (w.in-Err.is ∙ ap (λ (e : ExtractFault). Err e) same)
]

pub returns-clause-lacking : goal.returns-clause-lacking
returns-clause-lacking g c = λ is. elim c.match-retry_unless.branch [
  | in-Ok w ↦ let never : Ok w.in-Ok.field-0 ≡ Err faults.Memory = sym w.in-Ok.is ∙ c.retry_unless.ensures.lacking is in absurd (cc)
  | in-Err w ↦
      let why : Err w.in-Err.fault ≡ Err faults.Memory = sym w.in-Err.is ∙ c.retry_unless.ensures.lacking is in
      let same : w.in-Err.fault ≡ faults.Memory = cc in
      w.answer-is ∙ ap (λ (e : ExtractFault). Err e) same
]
