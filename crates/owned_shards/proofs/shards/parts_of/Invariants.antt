use Rattle.std.proofs.Common.{◌≡◌, ◌+◌, ◌++◌, ◌≤◌, map, reverse, vec_capacity, vec_len}
use Rattle.owned_shards.proofs.shards.parts_of.Given as goal

-- the shards that are left, and the parts of the others, the last first
abbrev pub invariant-loop-shard : goal.invariant-loop-shard
invariant-loop-shard g l =
    (map (λ s. s.held) l.shards.items ++ map (λ p. g.P.View.held p) (reverse l.parts.items) ≡ map (λ s. s.held) l.fn.shards.items)
    × (map (λ s. s.faults) l.shards.items ++ map (λ p. g.P.View.faults p) (reverse l.parts.items) ≡ map (λ s. s.faults) l.fn.shards.items)
    × (vec_len l.shards + vec_len l.parts ≤ vec_capacity l.parts)

abbrev pub decreases-loop-shard : goal.decreases-loop-shard
decreases-loop-shard g l = vec_len l.shards
