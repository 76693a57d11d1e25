use Rattle.std.proofs.Common.{◌≡◌, ◌+◌, ◌++◌, ◌≤◌, All, IsSome, Some, map, reverse, vec_capacity, vec_len}
use Rattle.image_workers.specs.Lanes.{kit_of, known_of}
use Rattle.image_workers.proofs.workers.kits_of.Given as goal

-- the lanes that are left, and the kits and lists of the others, the last first
abbrev pub invariant-loop-lane : goal.invariant-loop-lane
invariant-loop-lane g l =
    (map kit_of l.lanes.items ++ map (λ k. Some k) (reverse l.kits.items) ≡ map kit_of l.fn.lanes.items)
    × (vec_len l.lanes + vec_len l.kits ≤ vec_capacity l.kits)
    × All (λ a. IsSome (kit_of a)) l.lanes.items
    × (vec_capacity l.fn.room ≤ vec_capacity l.kits)
    × (map known_of l.lanes.items ++ map (λ v. Some v.items) (reverse l.lists.items) ≡ map known_of l.fn.lanes.items)
    × (vec_len l.lanes + vec_len l.lists ≤ vec_capacity l.lists)

abbrev pub decreases-loop-lane : goal.decreases-loop-lane
decreases-loop-lane g l = vec_len l.lanes
