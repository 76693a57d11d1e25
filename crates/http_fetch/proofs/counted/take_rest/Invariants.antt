use Rattle.std.proofs.Common.{◌≡◌, ℕ, ◌<◌, length}
use Rattle.std.specs.Prelude.{IfSome}
use Rattle.http_fetch.specs.Taking.{TakesBodyFront}
use Rattle.http_read.specs.Reads.{Receives}
use Rattle.http_fetch.proofs.counted.take_rest.Given as goal

-- what has come was taken
abbrev pub invariant-pieces : goal.invariant-pieces
invariant-pieces g l = record {
  room : 0 < length l.buffer;
  taken : (head size : ℕ) → IfSome (g.K.Link.state l.fn.link).traffic (TakesBodyFront (g.T.Taker.has_taken l.fn.taker) head size l.fn.left)
      → IfSome (g.K.Link.state l.link).traffic (TakesBodyFront (g.T.Taker.has_taken l.taker) head size l.missing);
  kept : Receives (g.K.Link.state l.fn.link).traffic (g.K.Link.state l.link).traffic;
  faults : (g.K.Link.state l.link).faults ≡ (g.K.Link.state l.fn.link).faults;
}

abbrev pub decreases-pieces : goal.decreases-pieces
decreases-pieces g l = l.missing
