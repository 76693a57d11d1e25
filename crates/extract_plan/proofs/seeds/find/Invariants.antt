use Rattle.extract_plan.specs.Found.{AreFound}
use Rattle.extract_plan.specs.Keys.{number_of}
use Rattle.extract_plan.proofs.seeds.find.Given as goal

abbrev pub invariant-loop-s : goal.invariant-loop-s
invariant-loop-s l = AreFound l.kind (number_of l.numbers) l.seeds l.s 0 l.found.wants.items l.found.places.items
