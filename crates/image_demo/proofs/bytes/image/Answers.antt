use Rattle.std.proofs.Common.{arith}
use Rattle.image_demo.proofs.Generated.{all_made, one_more}
use Rattle.image_demo.proofs.bytes.image.Goals as goal

pub loop-preserved : goal.loop-preserved
loop-preserved c = one_more c.loop.state c.next-state.result c.top_byte-byte.result c.args.size c.loop.counter c.loop.bytes.items c.push.new.self.items _ (omega (arith, c.loop-test.true)) c.loop.invariant c.in_ok-push.ensures.items c.top_byte-byte.ensures c.next-state.ensures

pub returns : goal.returns
returns c = all_made c.loop.state c.args.size c.loop.counter c.loop.bytes.items _ (omega (arith, c.loop-test.false)) c.loop.invariant
