use Rattle.locked_shelf.proofs.Counting.{gives_lost, gives_twice}
use Rattle.locked_shelf.proofs.serve_all.give_back.Goals as goal

pub loop-ended-init : goal.loop-ended-init
loop-ended-init g c = record { ended = gives_lost _ _ c.args.tally.now c.lose.new.self c.lose.ensures.well c.lose.ensures.few }

pub loop-ended-preserved : goal.loop-ended-preserved
loop-ended-preserved g c = record { ended = gives_twice _ _ _ _ _ _ _ c.loop-ended.invariant.ended c.give_one.ensures.ended }
