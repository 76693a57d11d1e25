use Rattle.std.proofs.Common.{◌≡◌, ◌+◌, ◌≤◌, IsTrue, vec_capacity, vec_len}
use Rattle.owned_shards.specs.Wholes.{joined_faults}
use Rattle.owned_shards.proofs.frame.lock_all.Given as goal

-- the shards that are left, and the locks of the others, the last first. Parts that never fail counted no fault
abbrev pub invariant-loop-shard : goal.invariant-loop-shard
invariant-loop-shard g l =
    (vec_len l.shards + vec_len l.locks ≡ vec_len l.fn.shards)
    × (vec_len l.fn.shards ≤ vec_capacity l.locks)
    × (vec_len l.fn.shards ≤ vec_capacity l.shards)
    × (IsTrue g.P.View.never_fails → joined_faults l.fn.shards.items ≡ joined_faults l.shards.items)

abbrev pub decreases-loop-shard : goal.decreases-loop-shard
decreases-loop-shard g l = vec_len l.shards
