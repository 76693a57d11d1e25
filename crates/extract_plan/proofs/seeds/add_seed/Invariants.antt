use Rattle.extract_plan.specs.Found.{AreFound}
use Rattle.extract_plan.specs.Keys.{number_of}
use Rattle.extract_plan.proofs.seeds.add_seed.Given as goal

abbrev pub invariant-loop-i : goal.invariant-loop-i
invariant-loop-i l = AreFound l.kind (number_of l.numbers) l.seeds l.s l.i l.found.wants.items l.found.places.items
