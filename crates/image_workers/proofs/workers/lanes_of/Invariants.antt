use Rattle.std.proofs.Common.{◌≡◌, ◌+◌, ◌++◌, ◌≤◌, [], All, Some, map, reverse, vec_capacity, vec_len}
use Rattle.image_workers.specs.Lanes.{tools_of}
use Rattle.image_workers.proofs.workers.lanes_of.Given as goal

-- the kits and the room that are left, and the lanes of the others, the last first
abbrev pub invariant-loop-kit : goal.invariant-loop-kit
invariant-loop-kit g l =
    (map (λ k. Some (k, g.L.Ledger.fates l.fn.ledger)) l.kits.items ++ map tools_of (reverse l.lanes.items) ≡ map (λ k. Some (k, g.L.Ledger.fates l.fn.ledger)) l.fn.kits.items)
    × (vec_len l.kits + vec_len l.lanes ≤ vec_capacity l.lanes)
    × (vec_len l.fn.kits ≤ vec_capacity l.kits)
    × (vec_len l.known ≡ vec_len l.kits)
    × (vec_len l.fn.kits ≤ vec_capacity l.known)
    × All (λ v. (v.items ≡ []) × (l.fn.count ≤ vec_capacity v)) l.known.items

abbrev pub decreases-loop-kit : goal.decreases-loop-kit
decreases-loop-kit g l = vec_len l.kits
