use Rattle.std.proofs.Common.{arith}
use Rattle.image_store.proofs.storing.Storing.new.Goals as goal

pub returns-clause-storing : goal.returns-clause-storing
returns-clause-storing g c = λ l size room. record {
  size = size;
  at = omega (arith, c.new-progress.ensures.at);
  room = room;
  put = c.new-progress.ensures.put l (g.V.View.held c.args.image).bytes;
}
