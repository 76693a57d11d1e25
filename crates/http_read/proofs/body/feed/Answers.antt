use Rattle.http_read.proofs.Bodies.{fed_fault, fed_less}
use Rattle.http_read.proofs.body.feed.Goals as goal

pub returns-in-Err-clause-first : goal.returns-in-Err-clause-first
returns-in-Err-clause-first c = λ k head old new fed next.
    fed_fault k head old new c.args.piece.now c.args.out.now c.feed.new.out c.args.reader.now c.feed.new.self c.in-Err.fault
    fed next c.in-Err.ensures.first

pub returns-in-Ok-clause-less : goal.returns-in-Ok-clause-less
returns-in-Ok-clause-less c = λ k head old fed some unended.
    fed_less c.bodies_end.ensures.value k head old c.args.piece.now c.args.out.now c.feed.new.out c.args.reader.now c.feed.new.self
    fed c.in-Ok.ensures.first c.feed.auto.out some unended
