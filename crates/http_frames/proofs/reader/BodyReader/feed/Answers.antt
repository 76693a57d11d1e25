use Rattle.std.proofs.Common.{◌++◌, Ok, refl, sym, subst}
use Rattle.http_frames.specs.Seen.{standing}
use Rattle.http_frames.specs.Standing.{FeedAnswers}
use Rattle.http_frames.proofs.Stood.{unhurt, stands_on, fault_met}
use Rattle.http_frames.proofs.reader.BodyReader.feed.Goals as goal

pub returns-in-Ok-clause-first : goal.returns-in-Ok-clause-first
returns-in-Ok-clause-first c =
    unhurt _ c.self.inside.fault c.self.inside.progress c.args.self.now c.self.view_is c.in_default.is
    (λ k b stands. subst (λ f. FeedAnswers k (b ++ c.args.piece.now) (Ok (tt {0})) (standing f c.feed.new.self) c.feed.new.out) (sym c.in_default.is)
    (stands_on k b c.self.inside.progress c.args.out.now c.args.piece.now c.feed.new.self c.feed.new.out c.feed.auto.out c.feed.ensures.inside stands c.in-Ok.ensures.value))

pub returns-in-Err-clause-first : goal.returns-in-Err-clause-first
returns-in-Err-clause-first c =
    unhurt _ c.self.inside.fault c.self.inside.progress c.args.self.now c.self.view_is c.in_default.is
    (λ k b stands. (fault_met k b c.self.inside.progress c.args.out.now c.args.piece.now c.feed.new.out c.in-Err.fault c.feed.auto.out stands c.in-Err.ensures.value, refl))
