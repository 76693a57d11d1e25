use Rattle.std.proofs.Common.{◌≡◌, ◌++◌, ◌≤◌, length, reverse, vec_capacity, vec_len}
use Rattle.std.specs.List.{flat_map}
use Rattle.owned_shards.proofs.lanes.gather.Given as goal

-- the shards of the lanes that were emptied, and of the others in turn
abbrev pub invariant-loop-lane : goal.invariant-loop-lane
invariant-loop-lane g l = record {
  items : l.shards.items ++ flat_map (λ a. reverse a.share.shards.items) (reverse l.lanes.items) ≡ flat_map (λ a. reverse a.share.shards.items) l.fn.lanes.items;
  room : length (flat_map (λ a. reverse a.share.shards.items) l.fn.lanes.items) ≤ vec_capacity l.shards;
}

abbrev pub decreases-loop-lane : goal.decreases-loop-lane
decreases-loop-lane g l = vec_len l.lanes
