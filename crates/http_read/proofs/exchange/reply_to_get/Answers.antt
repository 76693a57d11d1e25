use Rattle.http_read.proofs.Given.{has_status, is_unwanted}
use Rattle.http_wire.specs.declared.reply.Method.TheVariants as method
use Rattle.http_read.proofs.exchange.reply_to_get.Goals as goal

pub returns-then-status-eq404-clause-absent : goal.returns-then-status-eq404-clause-absent
returns-then-status-eq404-clause-absent g c = λ is.
    has_status method.Get _ c.in-Ok.reply.received.head c.in-Ok.reply.head 404 c.if-status-eq404.true c.in-Ok.ensures.ok

pub returns-then-status-ne200-clause-err : goal.returns-then-status-ne200-clause-err
returns-then-status-ne200-clause-err g c =
    is_unwanted method.Get 0 _ c.in-Ok.reply.received.head c.in-Ok.reply.head (c.if-status-ne200.true, c.if-status-eq404.false) c.in-Ok.ensures.ok
