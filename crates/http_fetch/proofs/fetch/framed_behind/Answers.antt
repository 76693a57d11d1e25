use Rattle.http_read.proofs.Given.{has_status}
use Rattle.http_read.proofs.Streams.{receives_nothing}
use Rattle.http_wire.specs.declared.reply.Method.TheVariants as method
use Rattle.http_fetch.proofs.fetch.framed_behind.Goals as goal

pub returns-in-Err-clause-kept : goal.returns-in-Err-clause-kept
returns-in-Err-clause-kept g c = receives_nothing _

pub returns-in-Err-clause-lacking : goal.returns-in-Err-clause-lacking
returns-in-Err-clause-lacking g c = λ _.
    has_status method.Get _ c.args.reply.received.head c.args.reply.head 200 c.requires.status c.requires.says
