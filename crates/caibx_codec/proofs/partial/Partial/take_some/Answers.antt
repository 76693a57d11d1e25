use Rattle.std.proofs.Common.{◌≡◌, [], refl, rules}
use Rattle.std.proofs.lemmas.Result.{err_from_is_err_and}
use Rattle.caibx_codec.specs.Seen.{read_of}
use Rattle.caibx_codec.proofs.Fronts.{field_goes, field_stops}
use Rattle.caibx_codec.proofs.Pieces.{reading_goes_on, reading_fails}
use Rattle.caibx_codec.proofs.partial.Partial.take_some.Goals as goal

pub returns-in_err-push-clause-value : goal.returns-in_err-push-clause-value
returns-in_err-push-clause-value c =
    let p = err_from_is_err_and c.from_residual.result c.from_residual.ensures.1 in
    rw (p.1, p.2) (reading_fails _ c.args.self.now c.args.piece.now 0 _ c.requires refl c.in_err-push.ensures)

pub returns-then-self-ne0-clause-value : goal.returns-then-self-ne0-clause-value
returns-then-self-ne0-clause-value c =
    reading_goes_on _ c.args.self.now _ c.args.piece.now 0 c.requires refl c.in_ok-push.ensures

pub returns-in_err-judge-clause-value : goal.returns-in_err-judge-clause-value
returns-in_err-judge-clause-value c =
    let none : (read_of c.self.inside).part ≡ [] = search rules in
    let p = err_from_is_err_and c.from_residual-in_err-judge.result c.from_residual-in_err-judge.ensures.1 in
    rw (p.1, p.2) (field_stops _ (read_of c.self.inside) c.self.view_is none c.args.piece.now c.width-width.result c.width-width.ensures c.if-piece-width.false _ c.in_err-judge.ensures)

pub returns-2-clause-value : goal.returns-2-clause-value
returns-2-clause-value c =
    let none : (read_of c.self.inside).part ≡ [] = search rules in
    field_goes _ (read_of c.self.inside) c.self.view_is none c.args.piece.now c.width-width.result c.width-width.ensures c.if-piece-width.false c.judge.new.self c.in_ok-judge.ensures
