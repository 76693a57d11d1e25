use Rattle.std.proofs.Common.{refl}
use Rattle.http_read.proofs.Streams.{receives_nothing}
use Rattle.http_fetch.proofs.counted.take_rest.Goals as goal

pub pieces-init : goal.pieces-init
pieces-init g c = record {
  room = c.requires.size;
  taken = λ head size front. front;
  kept = receives_nothing _;
  faults = refl;
}
