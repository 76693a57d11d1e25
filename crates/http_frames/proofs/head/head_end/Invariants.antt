use Rattle.std.proofs.Common.{◌≡◌, ℕ, ◌-◌, ◌≤◌, length, false}
use Rattle.http_frames.specs.HeadEnd.{ends_at}
use Rattle.http_frames.proofs.head.head_end.Given as goal

-- no end so far
abbrev pub invariant-loop-n : goal.invariant-loop-n
invariant-loop-n l = record {
  inside : l.n ≤ length l.bytes;
  none : (m : ℕ) → m ≤ l.n → ends_at l.bytes m ≡ false;
}

abbrev pub decreases-loop-n : goal.decreases-loop-n
decreases-loop-n l = length l.bytes - l.n
