use Rattle.std.proofs.Common.{refl, arith}
use Rattle.http_read.proofs.Heads.{none_at_front}
use Rattle.http_read.proofs.Streams.{receives_nothing}
use Rattle.http_read.proofs.receiving.receive.Goals as goal

pub loop-filled-init : goal.loop-filled-init
loop-filled-init g c = record {
  inside = omega arith;
  bytes = c.requires.fresh;
  none = none_at_front _;
  kept = receives_nothing _;
  faults = refl;
}
