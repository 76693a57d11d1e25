use Rattle.std.proofs.Common.{◌≡◌, ◌∙◌, ℕ, length, Result, Ok, Err, OnOk, refl, sym, ap, subst, arith}
use Rattle.assembler.proofs.Assembled.{assembled_err, assembled_ok, finished, first_sources, ran_of}
use Rattle.assembler.proofs.Based.{Surveyed, over_of, some_map}
use Rattle.assembler.proofs.Counted.{quiet_part}
use Rattle.assembler.proofs.Finished.{bytes_err, bytes_ok}
use Rattle.assembler.proofs.KeptCount.{kept_count}
use Rattle.assembler.proofs.Others.{seen_alone, suits_alone}
use Rattle.assembler.specs.Assemblies.{Assembles, IsAssembled}
use Rattle.assembler.specs.Stages.{Stage}
use Rattle.assembler.specs.declared.fault.ExtractFault.{ExtractFault}
use Rattle.chunk_sources.specs.Sources.{sources}
use Rattle.dsy_base.specs.Bytes.{Held, resized}
use Rattle.dsy_base.specs.Counts.{Quiet}
use Rattle.range_ledger.specs.Fills.{WhereTold}
use Rattle.range_survey.specs.Reports.{right_below, tally}
use Rattle.range_survey.specs.declared.fate.Fate.TheVariants as fate
use Rattle.range_survey.specs.declared.report.Report.{Report}
use Rattle.chunk_sources.specs.Wants.{Task}
use Rattle.caibx_codec.specs.Listing.{count_of, image_length}
use Rattle.chunk_sources.specs.Caches.{seen}
use Rattle.assembler.proofs.run.run_surveyed.Goals.{in-Ok, in-Err}
use Rattle.assembler.proofs.run.run_surveyed.Goals as goal

all_of : {P : Type 0} (r : Result Unit ExtractFault) (u : Unit) → r ≡ Ok u → OnOk r P → P
all_of {P} r u is says = subst (λ q. OnOk q P) is says

err_apart : {r : Report} {e : ExtractFault} → (◌≡◌ {A = Result Report ExtractFault} (Ok r) (Err e)) → ⊥
err_apart is = absurd (cc)

err_same : {d e : ExtractFault} → (◌≡◌ {A = Result Report ExtractFault} (Err d) (Err e)) → d ≡ e
err_same is = cc

pub settle_all-requires-clause-suits : goal.settle_all-requires-clause-suits
settle_all-requires-clause-suits g c = suits_alone _ _ _ _ _ c.requires.unnamed (seen_alone g.F.Look c.args.cache)

pub settle_all-requires-clause-may : goal.settle_all-requires-clause-may
settle_all-requires-clause-may g c = λ w less any has i among. c.requires.may i

pub returns-clause-assembled : goal.returns-clause-assembled
returns-clause-assembled g c = λ old f begun.
    let t : Task = record { listing = g.R.RunName.run.listing; plan = c.args.wants.now.plan.now; places = c.args.wants.now.places.now } in
    let work = c.settle_all.new.work in
    let a : Stage g.row.S.Denot g.row.V.Denot = record { held = c.args.ledger.held; faults = c.args.ledger.faults; fates = c.args.ledger.fates; kit = c.args.kit; cache = seen g.F.Look c.args.cache } in
    let b : Stage g.row.S.Denot g.row.V.Denot = record { held = work.ledger.held; faults = work.ledger.faults; fates = work.ledger.fates; kit = work.kit; cache = seen g.F.Look work.cache } in
    let r = c.settle_all.result in
    let ran = ran_of g.S.Store g.V.View t old f a b r g.R.RunName.run.listing refl c.requires.ready.wants (seen_alone g.F.Look c.args.cache) begun.held begun.rises c.rules.ensures.bytes c.rules.ensures.right begun.wrong begun.first
    c.settle_all.ensures.passes c.settle_all.ensures.ends c.settle_all.ensures.exactly in
    subst (λ (h : Held). IsAssembled g.S.Store g.V.View t old.bytes h.bytes (sources f c.args.kit.seeds.items (seen g.F.Look c.args.cache) c.args.kit.chain)
    (sources (g.T.View.faults c.into_target.result) work.kit.seeds.items (seen g.F.Look work.cache) work.kit.chain) c.match-settle_all.answer) (sym c.into_target.ensures.held)
    (subst (λ (n : ℕ). IsAssembled g.S.Store g.V.View t old.bytes b.held.bytes (sources f c.args.kit.seeds.items (seen g.F.Look c.args.cache) c.args.kit.chain)
    (sources n work.kit.seeds.items (seen g.F.Look work.cache) work.kit.chain) c.match-settle_all.answer) (sym c.into_target.ensures.faults)
    (elim c.match-settle_all.branch [
      | in-Ok w ↦
          let whole : length b.fates ≡ count_of t.listing = c.settle_all.ensures.passes.stretch.step.grows.size ∙ c.rules.ensures.counted in
          rw w.answer-is (assembled_ok g.S.Store g.V.View t old.bytes f a b r ran w.in-Ok.field-0 w.in-Ok.is w.report.result
          (w.report.ensures.seeded ∙ ap (tally fate.Seeded b.fates) whole) (w.report.ensures.cached ∙ ap (tally fate.Cached b.fates) whole)
          (w.report.ensures.fetched ∙ ap (tally fate.Fetched b.fates) whole))
      | in-Err w ↦ rw w.answer-is (assembled_err g.S.Store g.V.View t old.bytes f a b r ran w.in-Err.fault w.in-Err.is)
    ]))

pub returns-clause-bytes : goal.returns-clause-bytes
returns-clause-bytes g c = λ old f begun.
    let l = g.R.RunName.run.listing in
    let t : Task = record { listing = l; plan = c.args.wants.now.plan.now; places = c.args.wants.now.places.now } in
    let work = c.settle_all.new.work in
    let a : Stage g.row.S.Denot g.row.V.Denot = record { held = c.args.ledger.held; faults = c.args.ledger.faults; fates = c.args.ledger.fates; kit = c.args.kit; cache = seen g.F.Look c.args.cache } in
    let b : Stage g.row.S.Denot g.row.V.Denot = record { held = work.ledger.held; faults = work.ledger.faults; fates = work.ledger.fates; kit = work.kit; cache = seen g.F.Look work.cache } in
    let r = c.settle_all.result in
    let ran = ran_of g.S.Store g.V.View t old f a b r l refl c.requires.ready.wants (seen_alone g.F.Look c.args.cache) begun.held begun.rises c.rules.ensures.bytes c.rules.ensures.right begun.wrong begun.first
    c.settle_all.ensures.passes c.settle_all.ensures.ends c.settle_all.ensures.exactly in
    let done = finished g.S.Store g.V.View t old.bytes f a b r ran in
    subst (λ (h : Held). WhereTold old.bytes h.bytes (Assembles l ⊥ f (g.T.View.faults c.into_target.result) c.match-settle_all.answer)) (sym c.into_target.ensures.held)
    (subst (λ (n : ℕ). WhereTold old.bytes b.held.bytes (Assembles l ⊥ f n c.match-settle_all.answer)) (sym c.into_target.ensures.faults)
    (elim c.match-settle_all.branch [
      | in-Ok w ↦ rw w.answer-is (bytes_ok g.S.Store g.V.View t old.bytes (first_sources g.S.Store g.V.View t old.bytes f a b) (λ i. ⊥) a b r done ⊥ w.in-Ok.field-0 w.in-Ok.is w.report.result)
      | in-Err w ↦ rw w.answer-is (bytes_err g.S.Store g.V.View t old.bytes (first_sources g.S.Store g.V.View t old.bytes f a b) (λ i. ⊥) a b r done ⊥ w.in-Err.fault w.in-Err.is)
    ]))

pub returns-clause-report : goal.returns-clause-report
returns-clause-report g c = elim c.match-settle_all.branch [
  | in-Ok w ↦
      let whole : length c.settle_all.new.work.ledger.fates ≡ count_of g.R.RunName.run.listing = c.settle_all.ensures.passes.stretch.step.grows.size ∙ c.rules.ensures.counted in
      rw w.answer-is (w.report.ensures.all (λ i inside. all_of c.settle_all.result w.in-Ok.field-0 w.in-Ok.is c.settle_all.ensures.ends.ok i (omega (arith, inside, whole))) ∙ whole)
  | in-Err w ↦ rw w.answer-is tt
]

pub returns-clause-kept : goal.returns-clause-kept
returns-clause-kept g c = λ old f begun. elim c.match-settle_all.branch [
  | in-Ok w ↦ rw w.answer-is (λ quiet.
      let l = g.R.RunName.run.listing in
      let first = c.args.ledger in
      let last = c.settle_all.new.work.ledger in
      let step = c.settle_all.ensures.passes.stretch.step in
      let whole : length last.fates ≡ count_of l = step.grows.size ∙ c.rules.ensures.counted in
      let over = over_of l first.fates f first.faults old first.held begun.held c.rules.ensures.bytes c.rules.ensures.right begun.wrong in
      let part = quiet_part f f first.faults last.faults (omega arith) step.never_falls (subst (Quiet f) c.into_target.ensures.faults quiet) in
      some_map old.bytes (λ y. Surveyed l first.fates f first.faults (resized y (image_length l)))
      (λ y. w.report.result.kept ≡ right_below l (resized y (image_length l)) (count_of l))
      (λ y found. w.report.ensures.kept ∙ ap (tally fate.Kept last.fates) whole ∙ kept_count l (resized y (image_length l)) first.fates last.fates f first.faults part found.yes found.no
      begun.first step.grows (count_of l) (omega arith))
      over)
  | in-Err w ↦ rw w.answer-is tt
]

pub returns-clause-memory : goal.returns-clause-memory
returns-clause-memory g c = λ so. elim c.match-settle_all.branch [
  | in-Ok w ↦ absurd (err_apart (sym w.answer-is ∙ so))
  | in-Err w ↦ c.settle_all.ensures.ends.memory (w.in-Err.is ∙ ap (λ (e : ExtractFault). Err e) (err_same (sym w.answer-is ∙ so)))
]
