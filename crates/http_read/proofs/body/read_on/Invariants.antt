use Rattle.std.proofs.Common.{◌≡◌, ℕ, ◌≤◌, length}
use Rattle.std.specs.Prelude.{IfOk}
use Rattle.http_read.specs.Reads.{Fed, Receives, left_in}
use Rattle.http_frames.specs.declared.body.BodyKind.{BodyKind}
use Rattle.http_read.proofs.body.read_on.Given as goal

-- the reader was fed what was received after the head
abbrev pub invariant-pieces : goal.invariant-pieces
invariant-pieces g l = record {
  inside : IfOk l.reader (λ h. h.filled ≤ length l.out);
  some : (k : BodyKind) × (head : ℕ) × Fed k head (g.K.Link.state l.link).traffic l.reader l.out;
  fed : (k : BodyKind) (head : ℕ) → Fed k head (g.K.Link.state l.fn.link).traffic l.fn.reader l.fn.out
      → Fed k head (g.K.Link.state l.link).traffic l.reader l.out;
  kept : Receives (g.K.Link.state l.fn.link).traffic (g.K.Link.state l.link).traffic;
  faults : (g.K.Link.state l.link).faults ≡ (g.K.Link.state l.fn.link).faults;
}

abbrev pub decreases-pieces : goal.decreases-pieces
decreases-pieces g l = left_in (length l.out) l.reader
