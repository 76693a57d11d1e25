use Rattle.std.proofs.Common.{◌≡◌, ◌+◌, ◌≤◌, length, reverse, vec_capacity}
use Rattle.owned_shards.specs.Wholes.{AreShards}
use Rattle.owned_shards.proofs.frame.unlock_all.Given as goal

-- the locks that are left, and the shards of the others, the last first
abbrev pub invariant-loop-lock : goal.invariant-loop-lock
invariant-loop-lock g l =
    AreShards g.R.RunName.run (length l.locks.items) (reverse l.shards.items)
    × (length l.shards.items + length l.locks.items ≡ g.R.RunName.run.shards)
    × (g.R.RunName.run.shards ≤ vec_capacity l.shards)

abbrev pub decreases-loop-lock : goal.decreases-loop-lock
decreases-loop-lock g l = length l.locks.items
