use Rattle.std.proofs.Common.{◌≡◌, ◌-◌, ◌≤◌, vec_len, All}
use Rattle.image_cases.proofs.images.views_of.Given as goal

abbrev pub invariant-loop-alloc : goal.invariant-loop-alloc
invariant-loop-alloc g l = (vec_len l.views ≤ l.count) × All (λ i. i.bytes.items ≡ l.bytes) l.views.items

abbrev pub decreases-loop-alloc : goal.decreases-loop-alloc
decreases-loop-alloc g l = l.count - vec_len l.views
