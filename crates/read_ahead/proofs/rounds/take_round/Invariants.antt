use Rattle.std.proofs.Common.{◌≡◌, ◌-◌, Ok}
use Rattle.read_ahead.proofs.rounds.take_round.Given as goal

abbrev pub invariant-loop-consumer : goal.invariant-loop-consumer
invariant-loop-consumer g l = record {
  on : (first : _) → g.C.Consumer.goes first l.fn.consumer (Ok tt) → g.C.Consumer.goes first l.consumer (Ok tt);
  going : g.C.Consumer.can_go_on l.consumer;
  count : g.C.Consumer.count l.consumer ≡ g.C.Consumer.count l.fn.consumer;
  accepted : (a : _) → g.C.Consumer.accepts l.fn.consumer a → g.C.Consumer.accepts l.consumer a;
}

abbrev pub decreases-loop-consumer : goal.decreases-loop-consumer
decreases-loop-consumer g l = g.C.Consumer.count l.consumer - g.C.Consumer.taken l.consumer
