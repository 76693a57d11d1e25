use Rattle.std.proofs.Common.{◌&&◌, ◌∙◌, ap, false, subst, sym, true, IsTrue}
use Rattle.command_steps.proofs.Consulted.{reads_none}
use Rattle.command_steps.proofs.Dialed.{joined, joined_dials}
use Rattle.command_steps.specs.AnyStores.{IsGiven, location_in}
use Rattle.command_steps.specs.Sources.{storage}
use Rattle.command_steps.specs.Stores.{is_folder}
use Rattle.command_steps.proofs.sources.close.Goals as goal
use Rattle.dsy_base.specs.Counts.{raised}
use Rattle.dsy_base.specs.Links.{with_all}
use Rattle.std.proofs.Common.{◌≡◌}
use Rattle.command_steps.specs.AnyStores.{with_those}

pub returns-in-Http-clause-kept : goal.returns-in-Http-clause-kept
returns-in-Http-clause-kept g c =
    let state = g.D.Dial.state in
    let told = g.met.D.Dial.told in (
      record {
        disk = reads_none (g.F.Files.disk c.args.files.now);
        dial = joined_dials (state c.args.dial.now) (state c.join.new.self) (state c.into_dial.result) (told c.into_dial.result ∙ sym (told c.args.dial.now)) c.join.ensures.ended c.join.ensures.faults;
      },
      λ t. let no : IsTrue false = subst (λ s. IsTrue (is_folder (location_in g.F.Look.Look.place s) && true)) c.in-Http.is t in absurd (cc),
    )

pub returns-in-Http-clause-given : goal.returns-in-Http-clause-given
returns-in-Http-clause-given g c =
    let state = g.D.Dial.state in
    let r = c.in-Http.store in
    let k = state c.args.dial.now in
    let j = state c.join.new.self in
    let d = g.F.Files.disk c.args.files.now in
    let ended = c.join.ensures.ended ∙ ap (λ x. with_all k.ended (state x).ended) c.into_dial.ensures.value in
    let faults = c.join.ensures.faults ∙ ap (λ x. raised k.faults (state x).faults) c.into_dial.ensures.value in
    subst (λ s. IsGiven g.F.Look.Look.place g.F.Look.Look.faults state (storage d k) (storage d j) s) (sym c.in-Http.is) (joined k j (state r.dial) r.server r.refused ended faults c.into_dial.ensures.cause)

pub returns-in-Http-clause-ended : goal.returns-in-Http-clause-ended
returns-in-Http-clause-ended g c =
    let state = g.D.Dial.state in
    let k = state c.args.dial.now in
    let j = state c.join.new.self in
    subst (λ s. j.ended ≡ with_those state k.ended s) (sym c.in-Http.is) (c.join.ensures.ended ∙ ap (λ x. with_all k.ended (state x).ended) c.into_dial.ensures.value)
