use Rattle.std.proofs.Common.{◌≤◌, length, ap, arith}
use Rattle.image_slices.proofs.Places.{absent_above}
use Rattle.image_slices.proofs.ahead.Ahead.slice.Goals as goal

pub returns-in_err-piece-clause-absent : goal.returns-in_err-piece-clause-absent
returns-in_err-piece-clause-absent c = λ none b has.
    let past : length c.args.self.now.pieces.items ≤ c.place_of.result = omega (arith, c.in_err-piece.ensures.lookup.3, ap length c.deref.ensures.value) in
    absent_above c.args.index.now c.args.self.now c.args.i c.place_of.result c.place_of.ensures.above past b (record { entry = 0; at = 0 }) has
