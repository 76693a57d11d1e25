use Rattle.caibx_codec.proofs.Pieces.{reading_ends}
use Rattle.caibx_codec.proofs.partial.Partial.take.Goals as goal

pub returns : goal.returns
returns c = reading_ends _ c.loop-at.self c.args.piece.now c.loop-at.at c.loop-at-test.false c.loop-at.invariant.value
