use Rattle.std.proofs.Common.{◌≡◌, ◌+◌, ◌++◌, ◌≤◌, reverse, vec_capacity, vec_len}
use Rattle.owned_shards.proofs.share.move_last.Given as goal

-- what was moved, with what is left in turn
abbrev pub invariant-loop-from : goal.invariant-loop-from
invariant-loop-from g l = record {
  items : l.to.items ++ reverse l.from.items ≡ l.fn.to.items ++ reverse l.fn.from.items;
  stop : l.stop ≤ vec_len l.from;
  size : vec_len l.to + vec_len l.from ≡ vec_len l.fn.to + vec_len l.fn.from;
  kept : vec_capacity l.fn.to ≤ vec_capacity l.to;
}

abbrev pub decreases-loop-from : goal.decreases-loop-from
decreases-loop-from g l = vec_len l.from
