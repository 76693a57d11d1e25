use Rattle.std.proofs.Common.{arith}
use Rattle.caibx_codec.proofs.Cuts.{fed_not_cut}
use Rattle.caibx_codec.proofs.Answered.{judges_more, stands_more}
use Rattle.caibx_codec.proofs.partial.Partial.feed.Goals as goal

pub returns-clause-first : goal.returns-clause-first
returns-clause-first c = judges_more _ _ c.args.piece.now c.take.result c.requires c.take.ensures

pub returns-clause-ok : goal.returns-clause-ok
returns-clause-ok c = stands_more _ _ c.args.piece.now c.take.result (λ i. omega (arith, c.type_inv.piece i)) c.requires c.take.ensures

pub returns-clause-only : goal.returns-clause-only
returns-clause-only c = fed_not_cut _ c.take.result (judges_more _ _ c.args.piece.now c.take.result c.requires c.take.ensures)
