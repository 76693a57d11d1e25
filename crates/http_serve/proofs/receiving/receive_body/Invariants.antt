use Rattle.std.proofs.Common.{◌≡◌, ◌-◌, ◌≤◌, [], length}
use Rattle.http_serve.specs.Streams.{Moves, given_in, sent_in, stream_in}
use Rattle.http_serve.proofs.receiving.receive_body.Given as goal
use Rattle.http_frames.specs.HeadEnd.{head_limit}

-- a part of the body has come
abbrev pub invariant-pieces : goal.invariant-pieces
invariant-pieces g l = record {
  size : length l.waiting.items ≤ head_limit;
  room : length l.body.items ≤ l.size;
  moves : Moves (stream_in l.fn.waiting.items (g.K.Link.state l.fn.link).traffic) (stream_in l.waiting.items (g.K.Link.state l.link).traffic) [] l.body.items;
  kept : sent_in (stream_in l.waiting.items (g.K.Link.state l.link).traffic) ≡ sent_in (stream_in l.fn.waiting.items (g.K.Link.state l.fn.link).traffic);
  given : given_in (g.K.Link.state l.link).traffic ≡ given_in (g.K.Link.state l.fn.link).traffic;
  faults : (g.K.Link.state l.link).faults ≡ (g.K.Link.state l.fn.link).faults;
}

abbrev pub decreases-pieces : goal.decreases-pieces
decreases-pieces g l = l.size - length l.body.items
