use Rattle.extract_plan.proofs.Grouped.{Grouped}
use Rattle.extract_plan.proofs.group.group.Given as goal

abbrev pub invariant-loop-i : goal.invariant-loop-i
invariant-loop-i l = Grouped l.index l.i l.want_of.items l.count
