use Rattle.std.proofs.Common.{◌≡◌, ◌-◌, ◌≤◌, length}
use Rattle.http_serve.specs.Streams.{given_in, stream_in}
use Rattle.http_serve.proofs.receiving.receive_head.Given as goal
use Rattle.http_frames.specs.HeadEnd.{head_limit}

-- bytes have come, and no more than a head may have
abbrev pub invariant-loop-waiting : goal.invariant-loop-waiting
invariant-loop-waiting g l = record {
  size : length l.waiting.items ≤ head_limit;
  bytes : stream_in l.waiting.items (g.K.Link.state l.link).traffic ≡ stream_in l.fn.waiting.items (g.K.Link.state l.fn.link).traffic;
  given : given_in (g.K.Link.state l.link).traffic ≡ given_in (g.K.Link.state l.fn.link).traffic;
  faults : (g.K.Link.state l.link).faults ≡ (g.K.Link.state l.fn.link).faults;
}

abbrev pub decreases-loop-waiting : goal.decreases-loop-waiting
decreases-loop-waiting g l = head_limit - length l.waiting.items
