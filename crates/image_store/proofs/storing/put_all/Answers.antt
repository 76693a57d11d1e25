use Rattle.std.proofs.Common.{arith}
use Rattle.image_store.proofs.storing.put_all.Goals as goal

pub put_to-requires-clause-storing : goal.put_to-requires-clause-storing
put_to-requires-clause-storing g c = record {
  size = c.requires.size;
  at = omega (arith, c.new-progress.ensures.at);
  room = c.requires.room;
  put = c.new-progress.ensures.put c.args.index.now (g.V.View.held c.args.image.now).bytes;
}
