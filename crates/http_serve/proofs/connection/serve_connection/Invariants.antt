use Rattle.std.proofs.Common.{◌≡◌, ◌≤◌, [], length}
use Rattle.http_serve.specs.Streams.{given_in, stream_in}
use Rattle.http_serve.specs.Turns.{Stays}
use Rattle.http_serve.proofs.connection.serve_connection.Given as goal
use Rattle.http_frames.specs.HeadEnd.{head_limit}

-- whole turns were taken, and the connection is open
abbrev pub invariant-turns : goal.invariant-turns
invariant-turns g l = record {
  size : length l.waiting.items ≤ head_limit;
  stays : Stays (g.S.Service.protocol (g.S.Service.setting l.fn.desk)) (stream_in [] (g.K.Link.state l.fn.link).traffic) (g.S.Service.state l.fn.desk) (stream_in l.waiting.items (g.K.Link.state l.link).traffic) (g.S.Service.state l.desk);
  kept : g.S.Service.setting l.desk ≡ g.S.Service.setting l.fn.desk;
  changed : g.S.Service.leaves l.fn.desk l.desk;
  served_faults : (g.S.Service.state l.fn.desk).faults ≤ (g.S.Service.state l.desk).faults;
  given : given_in (g.K.Link.state l.link).traffic ≡ given_in (g.K.Link.state l.fn.link).traffic;
  faults : (g.K.Link.state l.link).faults ≡ (g.K.Link.state l.fn.link).faults;
}
