use Rattle.std.proofs.Common.{◌≡◌, ℕ, ◌-◌, ◌≤◌, length, take, false}
use Rattle.std.specs.Prelude.{IfSome}
use Rattle.http_read.specs.Reads.{Receives}
use Rattle.http_frames.specs.HeadEnd.{ends_at}
use Rattle.http_read.proofs.receiving.receive.Given as goal

-- what was received fills the front of the buffer, and has no head end
abbrev pub invariant-loop-filled : goal.invariant-loop-filled
invariant-loop-filled g l = record {
  inside : l.filled ≤ length l.buffer;
  bytes : IfSome (g.K.Link.state l.link).traffic (λ t. t.received ≡ take l.filled l.buffer);
  none : (m : ℕ) → m ≤ l.filled → ends_at (take l.filled l.buffer) m ≡ false;
  kept : Receives (g.K.Link.state l.fn.link).traffic (g.K.Link.state l.link).traffic;
  faults : (g.K.Link.state l.link).faults ≡ (g.K.Link.state l.fn.link).faults;
}

abbrev pub decreases-loop-filled : goal.decreases-loop-filled
decreases-loop-filled g l = length l.buffer - l.filled
