use Rattle.std.proofs.Common.{take, Ok, sym, ap, ◌∙◌, true, false}
use Rattle.http_frames.proofs.Stood.{unhurt, ended}
use Rattle.http_frames.proofs.reader.BodyReader.finish.Goals as goal

pub returns-then-may_end-clause-first : goal.returns-then-may_end-clause-first
returns-then-may_end-clause-first c =
    unhurt _ c.self.inside.fault c.self.inside.progress c.args.self.now c.self.view_is c.in_default.is
    (λ k b out stands. ended k b c.self.inside.progress out true stands (sym c.may_end.ensures ∙ c.if-may_end.true) ∙ ap (λ n. Ok (take n out)) (sym c.filled.ensures))

pub returns-clause-first : goal.returns-clause-first
returns-clause-first c =
    unhurt _ c.self.inside.fault c.self.inside.progress c.args.self.now c.self.view_is c.in_default.is
    (λ k b out stands. ended k b c.self.inside.progress out false stands (sym c.may_end.ensures ∙ c.if-may_end.false))
