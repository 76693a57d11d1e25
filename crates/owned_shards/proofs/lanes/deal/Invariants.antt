use Rattle.std.proofs.Common.{◌≡◌, ◌+◌, ◌++◌, ◌≤◌, [], All, reverse, vec_capacity, vec_len}
use Rattle.std.specs.List.{flat_map, sum_by}
use Rattle.owned_shards.specs.Shares.{IsUndealt}
use Rattle.owned_shards.proofs.lanes.deal.Given as goal

-- the shards that were dealt, and those that are left for the idle lanes
abbrev pub invariant-loop-lane : goal.invariant-loop-lane
invariant-loop-lane g l = record {
  unread : flat_map (λ a. a.share.unread.items) l.lanes.items ++ reverse l.unread.items ≡ reverse l.fn.unread.items;
  idle : All (λ a. IsUndealt a.share) l.idle.items;
  all : sum_by (λ a. a.share.count) l.idle.items ≡ vec_len l.unread;
  none : All (λ a. a.share.shards.items ≡ []) l.lanes.items;
  room : All (λ a. vec_len a.share.unread ≤ vec_capacity a.share.shards) l.lanes.items;
  size : vec_len l.lanes + vec_len l.idle ≡ vec_len l.fn.idle;
  back : vec_len l.fn.idle ≤ vec_capacity l.lanes;
}

abbrev pub decreases-loop-lane : goal.decreases-loop-lane
decreases-loop-lane g l = vec_len l.idle
