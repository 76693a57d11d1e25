use Rattle.std.proofs.Common.{◌≡◌, ◌∙◌, ℕ, List, Option, None, Some, IsSomeAnd, true, sym, subst}
use Rattle.assembler.specs.Permits.{MayFillHad, deals_to}
use Rattle.assembler.specs.Stages.{Ready, task}
use Rattle.cache_store.specs.Shelves.{Shelf}
use Rattle.chunk_store.specs.Kinds.{kind_named}
use Rattle.image_workers.proofs.Doors.{door_calm, door_own, door_takes, seen_door}
use Rattle.image_workers.proofs.Working.{worked}
use Rattle.image_workers.specs.Lanes.{HasWorked, IsReadyFor, worker_stage}
use Rattle.image_workers.specs.Shared.{door_shelf}
use Rattle.image_workers.specs.declared.lanes.Tools.{Tools}
use Rattle.range_survey.specs.declared.fate.Fate.{Fate}
use Rattle.image_workers.proofs.lanes.go.Given.{Over}
use Rattle.image_workers.proofs.lanes.go.Goals.{In-Some}
use Rattle.image_workers.proofs.lanes.go.Goals as goal

-- the door as it is named
abbrev named : (g : Over) (c : In-Some g) → Option Shelf
named g c = door_shelf (kind_named g.N.FolderName.kind) g.N.FolderName.opening g.N.FolderName.pairs g.N.FolderName.stores 0 c.args.cache.now

-- the tools were there
there : (g : Over) (c : In-Some g) → c.args.lane.now.tools ≡ Some c.in-Some.field-0
there g c = sym c.take.ensures.value ∙ c.in-Some.is

ready : (g : Over) (c : In-Some g) → IsReadyFor g.S.Store g.V.View g.R.RunName.run (task g.R.RunName.run.listing c.args.wants.now) (named g c) c.args.worker c.in-Some.field-0.kit c.in-Some.field-0.known.items
ready g c = subst (λ (o : Option (Tools g.row.S.Denot g.row.V.Denot)). IsSomeAnd o (λ x. IsReadyFor g.S.Store g.V.View g.R.RunName.run (task g.R.RunName.run.listing c.args.wants.now) (named g c) c.args.worker x.kit x.known.items))
    (there g c) c.requires.ready

pub fill-requires-clause-ready : goal.fill-requires-clause-ready
fill-requires-clause-ready g c =
    let here = (goal.at.fill-requires-clause-ready g c).In-Some in
    let r = g.R.RunName.run in
    let t = task r.listing c.args.wants.now in
    let k = c.in-Some.field-0.kit in
    subst (λ (e : Option Shelf). Ready t (worker_stage r c.new.result.fates c.new.result.faults e k)) (sym c.door_of.ensures.fresh)
    (subst (λ (n : ℕ). Ready t (worker_stage r c.new.result.fates n (named g here) k)) (sym c.new.ensures.faults)
    (subst (λ (m : List Fate). Ready t (worker_stage r m 0 (named g here) k)) (sym c.new.ensures.fates) (ready g here).ready))

pub fill-requires-clause-suits : goal.fill-requires-clause-suits
fill-requires-clause-suits g c =
    let here = (goal.at.fill-requires-clause-suits g c).In-Some in
    let n = g.N.FolderName in
    record {
      takes = door_takes (kind_named n.kind) n.opening n.pairs n.stores (λ d. d.faults) g.S.Store g.R.RunName.run.listing c.in-Some.field-0.kit.chain.stores c.door_of.result c.args.cache.now c.door_of.ensures.fresh (ready g here).adds;
      own = door_own (kind_named n.kind) n.opening n.pairs n.stores (λ d. d.faults) ((n.pairs ≡ None) × (n.stores ≡ None)) c.door_of.result;
    }

pub fill-requires-clause-may : goal.fill-requires-clause-may
fill-requires-clause-may g c =
    let here = (goal.at.fill-requires-clause-may g c).In-Some in
    let r = g.R.RunName.run in
    let t = task r.listing c.args.wants.now in
    let k = c.in-Some.field-0.kit in
    subst (λ (e : Option Shelf). MayFillHad g.S.Store g.V.View t r.may (worker_stage r c.new.result.fates c.new.result.faults e k) (λ w. deals_to t.plan c.args.worker w ≡ true)) (sym c.door_of.ensures.fresh)
    (subst (λ (n : ℕ). MayFillHad g.S.Store g.V.View t r.may (worker_stage r c.new.result.fates n (named g here) k) (λ w. deals_to t.plan c.args.worker w ≡ true)) (sym c.new.ensures.faults)
    (subst (λ (m : List Fate). MayFillHad g.S.Store g.V.View t r.may (worker_stage r m 0 (named g here) k) (λ w. deals_to t.plan c.args.worker w ≡ true)) (sym c.new.ensures.fates) (ready g here).may))

pub returns : goal.returns
returns g c =
    let here = (goal.at.returns g c).In-Some in
    let r = g.R.RunName.run in
    let t = task r.listing c.args.wants.now in
    let x = c.in-Some.field-0 in
    let w = c.fill.new.work in
    let n = g.N.FolderName in
    let never = g.P.View.never_fails in
    let sure = g.F.Look.never_fails in
    let e = named g here in
    record {
      worked = subst (λ (o : Option (Tools g.row.S.Denot g.row.V.Denot)). IsSomeAnd o (λ z. HasWorked g.S.Store g.V.View r t e never sure c.args.worker z.kit z.known.items w.kit c.into_known.result.items c.is_err-lane.result)) (sym (there g here))
          (subst (λ (m : List Fate). HasWorked g.S.Store g.V.View r t e never sure c.args.worker x.kit x.known.items w.kit m c.is_err-lane.result) (sym c.into_known.ensures.fates)
          (subst (λ (m : List Fate). HasWorked g.S.Store g.V.View r t e never sure c.args.worker x.kit m w.kit w.ledger.fates c.is_err-lane.result) c.new.ensures.fates
          (subst (λ (y : Option Shelf). HasWorked g.S.Store g.V.View r t y never sure c.args.worker x.kit c.new.result.fates w.kit w.ledger.fates c.is_err-lane.result) c.door_of.ensures.fresh
          (worked g.S.Store g.V.View r t (seen_door (kind_named n.kind) n.opening n.pairs n.stores (λ d. d.faults) c.door_of.result) never sure c.args.worker x.kit w.kit c.new.result.fates w.ledger.fates c.new.result.faults w.ledger.faults
          (seen_door (kind_named n.kind) n.opening n.pairs n.stores (λ d. d.faults) w.cache)
          c.is_err-lane.result c.fill.result c.is_err-lane.ensures.value c.new.ensures.faults c.rules.ensures.sure
          (door_calm (kind_named n.kind) n.opening n.pairs n.stores (λ d. d.faults) sure w.cache c.door_keeps.ensures.sure)
          c.fill.ensures.passes c.fill.ensures.memory c.fill.ensures.exactly c.fill.ensures.shared c.fill.ensures.left c.fill.ensures.others))));
    }
