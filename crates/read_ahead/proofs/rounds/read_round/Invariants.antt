use Rattle.std.proofs.Common.{◌<◌, ◌≤◌, IfSome}
use Rattle.read_ahead.specs.ReadsOn.{ReadsOn}
use Rattle.read_ahead.proofs.rounds.read_round.Given as goal

-- what was read is right
abbrev pub invariant-loop : goal.invariant-loop
invariant-loop g l = record {
  next : IfSome l.next (λ i. (l.claims.from ≤ i) × (i < l.claims.to));
  right : g.V.Reader.is_right l.reader l.room;
  on : ReadsOn g.V.Reader l.fn.reader l.reader;
}
