use Rattle.std.proofs.Common.{ℕ, refl}
use Rattle.http_read.proofs.Bodies.{behind_head}
use Rattle.http_read.proofs.Streams.{receives_nothing, ok_weaker, wire_same, wire_weaker}
use Rattle.http_read.specs.declared.fault.Unread.{Unread}
use Rattle.http_frames.specs.declared.reader.BodyReader.{BodyReader}
use Rattle.http_read.proofs.body.read_body.Goals as goal

pub read_on-requires-clause-fed : goal.read_on-requires-clause-fed
read_on-requires-clause-fed g c = (
  c.args.kind,
  c.args.received.head,
  c.in-Ok.ensures.fed c.args.received.head _
      (behind_head c.args.received.head c.args.received.filled c.args.buffer.now _ _ c.requires.inside.0 c.requires.inside.1 refl c.requires.bytes),
)

pub returns-in-Ok-clause-ok : goal.returns-in-Ok-clause-ok
returns-in-Ok-clause-ok g c =
    let fed = c.in-Ok.ensures.fed c.args.received.head _
    (behind_head c.args.received.head c.args.received.filled c.args.buffer.now _ _ c.requires.inside.0 c.requires.inside.1 refl c.requires.bytes) in
    ok_weaker ℕ Unread _ _ c.read_on.result (λ n is. is c.args.kind c.args.received.head fed) c.read_on.ensures.ok

pub returns-in-Ok-clause-first : goal.returns-in-Ok-clause-first
returns-in-Ok-clause-first g c =
    let fed = c.in-Ok.ensures.fed c.args.received.head _
    (behind_head c.args.received.head c.args.received.filled c.args.buffer.now _ _ c.requires.inside.0 c.requires.inside.1 refl c.requires.bytes) in
    wire_same ℕ _ _ c.read_on.result (λ f is. is c.args.kind c.args.received.head fed) c.read_on.ensures.first

pub returns-in-Err-clause-first : goal.returns-in-Err-clause-first
returns-in-Err-clause-first g c =
    let behind =
    behind_head c.args.received.head c.args.received.filled c.args.buffer.now _ _ c.requires.inside.0 c.requires.inside.1 refl c.requires.bytes in
    wire_weaker BodyReader ℕ _ _ c.in-Err.unread (λ f is. is c.args.received.head _ behind) c.in-Err.ensures.first

pub returns-in-Err-clause-kept : goal.returns-in-Err-clause-kept
returns-in-Err-clause-kept g c = receives_nothing _
