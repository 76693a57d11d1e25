use Rattle.extract_plan.proofs.Listed.{AreListed}
use Rattle.extract_plan.proofs.group.sorted_entries.Given as goal

abbrev pub invariant-loop-i : goal.invariant-loop-i
invariant-loop-i l = AreListed l.index (λ i. i) l.i l.entries.items
