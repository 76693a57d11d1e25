use Rattle.std.proofs.Common.{slice_index}
use Rattle.extract_plan.proofs.Listed.{AreListed}
use Rattle.extract_plan.proofs.seeds.numbers.Given as goal

abbrev pub invariant-loop-i : goal.invariant-loop-i
invariant-loop-i l = AreListed l.index (slice_index l.plan.want_of) l.i l.numbers.items
