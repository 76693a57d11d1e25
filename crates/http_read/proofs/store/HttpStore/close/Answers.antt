use Rattle.std.proofs.Common.{ap, sym, subst}
use Rattle.std.specs.Prelude.{IfSome}
use Rattle.http_read.proofs.Called.{bad_said}
use Rattle.http_read.proofs.Ended.{cause_added, cause_kept}
use Rattle.http_read.specs.Refusals.{IsUnacceptable}
use Rattle.http_read.proofs.store.HttpStore.close.Goals as goal

pub refuse-requires : goal.refuse-requires
refuse-requires g c =
    let server = ap (λ r. r.server) c.self.view_is in
    let last = (g.D.Link.Link.state c.args.link).traffic in
    record {
      cause = bad_said _ _ _ c.args.answer c.in-Err.refused c.in-Err.is c.requires.bad
          (λ bad. cause_added _ c.self.inside.refused (g.D.Dial.state c.self.inside.dial).ended last _ c.hang_up.ensures.ended
          (subst (λ s. IfSome last (IsUnacceptable s)) (sym server) bad) c.self.invariant);
    }

pub invariant_of-self-in-Err : goal.invariant_of-self-in-Err
invariant_of-self-in-Err g c =
    cause_kept _ c.self.inside.refused (g.D.Dial.state c.self.inside.dial).ended (g.D.Link.Link.state c.args.link).traffic _
    c.hang_up.ensures.ended c.self.invariant

pub invariant_of-self : goal.invariant_of-self
invariant_of-self g c =
    cause_kept _ c.self.inside.refused (g.D.Dial.state c.self.inside.dial).ended (g.D.Link.Link.state c.args.link).traffic _
    c.hang_up.ensures.ended c.self.invariant
