use Rattle.std.proofs.Common.{◌+◌, ◌≤◌, length}
use Rattle.caibx_codec.specs.Checking.{IsJudgedTo}
use Rattle.caibx_codec.proofs.check.check_index.Given as goal

-- the rest is to be judged, and there are no more items than bytes before it
abbrev pub invariant-loop-rest : goal.invariant-loop-rest
invariant-loop-rest l = record {
  judged : IsJudgedTo l.bytes l.rest l.front;
  few : l.front.count + length l.rest ≤ length l.bytes;
}

abbrev pub decreases-loop-rest : goal.decreases-loop-rest
decreases-loop-rest l = length l.rest
