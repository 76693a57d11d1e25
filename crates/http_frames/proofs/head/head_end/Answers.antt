use Rattle.std.proofs.Common.{arith}
use Rattle.http_frames.proofs.Ends.{none_at_front}
use Rattle.http_frames.proofs.head.head_end.Goals as goal

pub loop-n-init : goal.loop-n-init
loop-n-init c = record { inside = omega arith; none = none_at_front c.args.bytes.now }
