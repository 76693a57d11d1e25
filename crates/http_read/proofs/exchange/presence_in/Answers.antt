use Rattle.std.proofs.Common.{Bool}
use Rattle.http_read.proofs.Given.{has_status, is_unwanted}
use Rattle.http_read.proofs.Heads.{refused_by_head}
use Rattle.http_read.specs.declared.exchange.Reply.{Reply}
use Rattle.http_wire.specs.declared.reply.Method.TheVariants as method
use Rattle.http_read.proofs.exchange.presence_in.Goals as goal

pub returns-in-Err-clause-bad : goal.returns-in-Err-clause-bad
returns-in-Err-clause-bad g c = refused_by_head Reply Bool _ 0 _ c.in-Err.refused c.in-Err.ensures.bad

pub returns-then-status-eq200-clause-ok : goal.returns-then-status-eq200-clause-ok
returns-then-status-eq200-clause-ok g c =
    has_status method.Head _ c.in-Ok.reply.received.head c.in-Ok.reply.head 200 c.if-status-eq200.true c.in-Ok.ensures.ok

pub returns-then-status-eq404-clause-ok : goal.returns-then-status-eq404-clause-ok
returns-then-status-eq404-clause-ok g c =
    has_status method.Head _ c.in-Ok.reply.received.head c.in-Ok.reply.head 404 c.if-status-eq404.true c.in-Ok.ensures.ok

pub returns-clause-bad : goal.returns-clause-bad
returns-clause-bad g c =
    is_unwanted method.Head 0 _ c.in-Ok.reply.received.head c.in-Ok.reply.head (c.if-status-eq200.false, c.if-status-eq404.false) c.in-Ok.ensures.ok
