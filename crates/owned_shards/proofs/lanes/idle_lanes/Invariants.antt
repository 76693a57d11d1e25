use Rattle.std.proofs.Common.{◌≡◌, ◌+◌, ◌-◌, ◌≤◌, All, vec_capacity, vec_len}
use Rattle.std.specs.List.{sum_by}
use Rattle.owned_shards.specs.Shares.{IsUndealt}
use Rattle.owned_shards.proofs.lanes.idle_lanes.Given as goal

-- the shares of these lanes, and what is left for the others
abbrev pub invariant-loop-alloc : goal.invariant-loop-alloc
invariant-loop-alloc g l = record {
  none : All (λ a. IsUndealt a.share) l.lanes.items;
  size : vec_len l.lanes ≤ l.workers;
  room : l.workers ≤ vec_capacity l.lanes;
  all : sum_by (λ a. a.share.count) l.lanes.items + l.left ≡ l.shards;
  last : vec_len l.lanes ≡ l.workers → l.left ≡ 0;
}

abbrev pub decreases-loop-alloc : goal.decreases-loop-alloc
decreases-loop-alloc g l = l.workers - vec_len l.lanes
