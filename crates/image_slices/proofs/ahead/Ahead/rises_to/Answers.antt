use Rattle.std.proofs.Common.{slice_index_or, subst, ◌≡◌, List}
use Rattle.std.proofs.lemmas.Bool.{ltb-true}
use Rattle.image_slices.proofs.Places.{below_first}
use Rattle.image_slices.specs.declared.ahead.Piece.{Piece}
use Rattle.image_slices.proofs.ahead.Ahead.rises_to.Goals as goal

pub returns-in-Some : goal.returns-in-Some
returns-in-Some c = λ yes.
    let p = c.in-Some.piece.now in
    below_first c.args.self.now.pieces.items c.args.i p c.requires
    (subst (λ (ps : List Piece). (d : Piece) → p ≡ slice_index_or ps 0 d) c.deref.ensures.value c.in-Some.ensures.item.3.1)
    (ltb-true p.entry c.args.i yes)
