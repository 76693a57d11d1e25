use Rattle.std.proofs.Common.{refl}
use Rattle.http_read.proofs.Bodies.{behind_head}
use Rattle.http_read.proofs.Streams.{wire_same}
use Rattle.http_fetch.proofs.Takes.{begins_taken, on_ok}
use Rattle.http_fetch.proofs.counted.take_counted.Goals as goal

pub returns-clause-ok : goal.returns-clause-ok
returns-clause-ok g c =
    let traffic = (g.K.Link.state c.args.link.now).traffic in
    let behind = behind_head c.args.received.head c.args.received.filled c.args.buffer.now _ traffic c.requires.inside.0 c.requires.inside.1 refl c.requires.bytes in
    let front = begins_taken (g.T.Taker.has_taken c.args.taker.now) (g.T.Taker.has_taken c.take.new.self) c.args.received.head c.args.size c.min-len.result _ _ traffic
    c.take.ensures.taken c.requires.fresh c.split_at.ensures.front c.min-len.ensures behind in
    on_ok c.take_rest.result (λ all. all c.args.received.head c.args.size front) c.take_rest.ensures.ok

pub returns-clause-first : goal.returns-clause-first
returns-clause-first g c =
    let traffic = (g.K.Link.state c.args.link.now).traffic in
    let behind = behind_head c.args.received.head c.args.received.filled c.args.buffer.now _ traffic c.requires.inside.0 c.requires.inside.1 refl c.requires.bytes in
    let front = begins_taken (g.T.Taker.has_taken c.args.taker.now) (g.T.Taker.has_taken c.take.new.self) c.args.received.head c.args.size c.min-len.result _ _ traffic
    c.take.ensures.taken c.requires.fresh c.split_at.ensures.front c.min-len.ensures behind in
    wire_same _ _ _ c.take_rest.result (λ f short. (short.0, short.1 c.args.received.head c.args.size front)) c.take_rest.ensures.first
