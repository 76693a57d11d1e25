use Rattle.std.proofs.Common.{ℕ, ◌<◌, ◌≤◌, refl}
use Rattle.dsy_base.specs.Links.{Traffic}
use Rattle.http_read.proofs.Given.{has_status, is_unwanted}
use Rattle.http_read.proofs.Heads.{refused_by_head}
use Rattle.http_read.proofs.Streams.{weaker}
use Rattle.http_read.specs.Replies.{SaysStatus}
use Rattle.http_read.specs.declared.exchange.Reply.{Reply}
use Rattle.http_wire.specs.declared.reply.Method.TheVariants as method
use Rattle.http_read.proofs.exchange.taken_in.Goals as goal

pub returns-in-Err-clause-bad : goal.returns-in-Err-clause-bad
returns-in-Err-clause-bad g c = refused_by_head Reply (Unit {0}) _ 0 _ c.in-Err.refused c.in-Err.ensures.bad

pub returns-then-taken-clause-ok : goal.returns-then-taken-clause-ok
returns-then-taken-clause-ok g c =
    let in_range = c.is_success-taken.ensures.yes c.if-taken.true in
    let taken : (t : Traffic) → SaysStatus method.Put t c.in-Ok.reply.head.status
    → (code : ℕ) × (200 ≤ code) × (code < 300) × SaysStatus method.Put t code =
    λ t status. (c.in-Ok.reply.head.status, in_range.0, in_range.1, status) in
    weaker _ taken
    (has_status method.Put _ c.in-Ok.reply.received.head c.in-Ok.reply.head _ refl c.in-Ok.ensures.ok)

pub returns-clause-bad : goal.returns-clause-bad
returns-clause-bad g c =
    is_unwanted method.Put 0 _ c.in-Ok.reply.received.head c.in-Ok.reply.head (c.is_success-taken.ensures.no c.if-taken.false) c.in-Ok.ensures.ok
