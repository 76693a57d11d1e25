use Rattle.std.proofs.Common.{◌-◌, ◌≤◌, vec_len, All}
use Rattle.image_demo.specs.SharedKits.{IsKitOf}
use Rattle.image_demo.proofs.kits.add_kits.Given as goal

abbrev pub invariant-loop-alloc : goal.invariant-loop-alloc
invariant-loop-alloc g l = (vec_len l.kits ≤ l.workers) × All (IsKitOf l.kind l.store l.seed) l.kits.items

abbrev pub decreases-loop-alloc : goal.decreases-loop-alloc
decreases-loop-alloc g l = l.workers - vec_len l.kits
