use Rattle.std.proofs.Common.{◌∙◌, ap, subst, sym}
use Rattle.command_steps.proofs.Dialed.{joined}
use Rattle.command_steps.specs.AnyStores.{IsGiven}
use Rattle.command_steps.specs.Sources.{storage}
use Rattle.command_steps.proofs.taken_stores.give_source.Goals as goal
use Rattle.dsy_base.specs.Counts.{raised}
use Rattle.dsy_base.specs.Links.{with_all}
use Rattle.std.proofs.Common.{◌≡◌}
use Rattle.command_steps.specs.AnyStores.{with_those}

pub returns-in-Http-clause-given : goal.returns-in-Http-clause-given
returns-in-Http-clause-given g c =
    let state = g.D.Dial.state in
    let r = c.in-Http.server in
    let k = state c.args.dial.now in
    let j = state c.join.new.self in
    let d = g.F.Files.disk c.args.files.now in
    let ended = c.join.ensures.ended ∙ ap (λ x. with_all k.ended (state x).ended) c.into_dial.ensures.value in
    let faults = c.join.ensures.faults ∙ ap (λ x. raised k.faults (state x).faults) c.into_dial.ensures.value in
    subst (λ s. IsGiven g.F.Folder.Look.place g.F.Folder.Look.faults state (storage d k) (storage d j) s) (sym c.in-Http.is) (joined k j (state r.dial) r.server r.refused ended faults c.into_dial.ensures.cause)

pub returns-in-Http-clause-ended : goal.returns-in-Http-clause-ended
returns-in-Http-clause-ended g c =
    let state = g.D.Dial.state in
    let k = state c.args.dial.now in
    let j = state c.join.new.self in
    subst (λ s. j.ended ≡ with_those state k.ended s) (sym c.in-Http.is) (c.join.ensures.ended ∙ ap (λ x. with_all k.ended (state x).ended) c.into_dial.ensures.value)
