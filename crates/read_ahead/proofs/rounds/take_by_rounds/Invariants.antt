use Rattle.std.proofs.Common.{◌≡◌, ◌-◌, ◌≤◌, All, Ok, length}
use Rattle.std.specs.List.{AllZip}
use Rattle.read_ahead.specs.ReadsOn.{ReadsOn}
use Rattle.read_ahead.proofs.rounds.take_by_rounds.Given as goal

-- the rounds before item `at` are over
abbrev pub invariant-loop-at : goal.invariant-loop-at
invariant-loop-at g l = record {
  on : (first : _) → g.C.Consumer.goes first l.fn.consumer (Ok tt) → g.C.Consumer.goes first l.consumer (Ok tt);
  going : g.C.Consumer.can_go_on l.consumer;
  count : g.C.Consumer.count l.consumer ≡ g.C.Consumer.count l.fn.consumer;
  accepted : (a : _) → g.C.Consumer.accepts l.fn.consumer a → g.C.Consumer.accepts l.consumer a;
  inside : l.at ≤ g.C.Consumer.count l.consumer;
  rooms : length l.rooms.items ≡ length l.readers;
  spare : length l.ready.items ≡ length l.readers;
  ready : All (g.C.Consumer.accepts l.consumer) l.ready.items;
  readers : AllZip (ReadsOn g.V.Reader) l.fn.readers l.readers;
}

abbrev pub decreases-loop-at : goal.decreases-loop-at
decreases-loop-at g l = g.C.Consumer.count l.consumer - l.at
