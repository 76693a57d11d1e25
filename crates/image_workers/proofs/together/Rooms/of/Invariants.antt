use Rattle.std.proofs.Common.{◌≡◌, ◌≤◌, [], All, vec_capacity, vec_len}
use Rattle.image_workers.proofs.together.Rooms.of.Given as goal

-- one list for each worker so far
abbrev pub invariant-loop : goal.invariant-loop
invariant-loop g l = (vec_len l.known ≡ l.counter) × All (λ v. (v.items ≡ []) × (l.fn.entries ≤ vec_capacity v)) l.known.items
