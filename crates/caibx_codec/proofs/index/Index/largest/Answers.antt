use Rattle.std.proofs.Common.{arith}
use Rattle.caibx_codec.specs.Listing.{size_of}
use Rattle.caibx_codec.proofs.Largest.{grows, stays}
use Rattle.caibx_codec.proofs.index.Index.largest.Goals as goal
use Rattle.caibx_codec.proofs.index.Index.largest.Goals.{then-most-size, else-most-size}

pub loop-i-preserved : goal.loop-i-preserved
loop-i-preserved c =
    let i = c.loop-i.i in
    let n = c.size-size.result in
    elim c.if-most-size.branch [
      | then-most-size w ↦ grows (size_of c.args.self.now) i c.loop-i.most n c.if-most-size.most c.size-size.ensures c.loop-i.invariant (omega arith) w.most-is
      | else-most-size w ↦ stays (size_of c.args.self.now) i c.loop-i.most n c.if-most-size.most c.size-size.ensures c.loop-i.invariant (c.rules.ensures.holds i (omega (arith, c.count-i-end.ensures))) (omega arith) w.most-is
    ]
