use Rattle.std.proofs.Common.{◌<◌, ◌≤◌}
use Rattle.buzhash_cut.proofs.walk.place_before.Given as goal

abbrev pub invariant-loop-run : goal.invariant-loop-run
invariant-loop-run l = (l.at < l.first) × (l.first ≤ l.next)
