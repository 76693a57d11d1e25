use Rattle.http_read.proofs.Bodies.{begins, begins_badly}
use Rattle.http_read.proofs.body.reader_of.Goals as goal

pub returns-in-Ok-clause-fed : goal.returns-in-Ok-clause-fed
returns-in-Ok-clause-fed c =
    begins c.args.kind c.args.bytes.now c.args.out.now c.feed.new.out c.new-reader.result c.feed.new.self c.new-reader.ensures.fresh
    (c.new-reader.ensures.none _) c.in-Ok.ensures.first

pub returns-in-Err-clause-first : goal.returns-in-Err-clause-first
returns-in-Err-clause-first c =
    begins_badly c.args.kind c.args.bytes.now c.args.out.now c.feed.new.out c.new-reader.result c.feed.new.self c.in-Err.fault
    c.new-reader.ensures.fresh (c.new-reader.ensures.none _) c.in-Err.ensures.first
