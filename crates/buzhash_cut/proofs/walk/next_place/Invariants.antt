use Rattle.std.proofs.Common.{◌<◌, ◌≤◌}
use Rattle.buzhash_cut.proofs.walk.next_place.Given as goal

abbrev pub invariant-loop-worker : goal.invariant-loop-worker
invariant-loop-worker g l = (l.at < l.next) × (l.next ≤ l.size)
