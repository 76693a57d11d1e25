use Rattle.std.proofs.Common.{◌-◌, length, slice_index_or, subst, ◌≡◌, List}
use Rattle.std.proofs.lemmas.Bool.{ltb-true}
use Rattle.image_slices.proofs.Places.{above_last}
use Rattle.image_slices.specs.declared.ahead.Piece.{Piece}
use Rattle.image_slices.proofs.ahead.Ahead.falls_to.Goals as goal

pub returns-in-Some : goal.returns-in-Some
returns-in-Some c = λ yes.
    let p = c.in-Some.piece.now in
    above_last c.args.self.now.pieces.items c.args.i p c.requires
    (subst (λ (ps : List Piece). (d : Piece) → p ≡ slice_index_or ps (length ps - 1) d) c.deref.ensures.value c.in-Some.ensures.item.3.1)
    (ltb-true c.args.i p.entry yes)
