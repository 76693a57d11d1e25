use Rattle.std.proofs.Common.{◌≡◌, ◌≤◌, ◌*◌, take}
use Rattle.extract_plan.specs.Places.{items_of}
use Rattle.extract_plan.proofs.seeds.items.Given as goal

abbrev pub invariant-loop-s : goal.invariant-loop-s
invariant-loop-s l = record {
  value : l.items ≡ items_of (take l.s l.seeds);
  fits : l.items ≤ l.s * 4194304;
}
