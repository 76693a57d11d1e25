use Rattle.std.proofs.Common.{◌≡◌, ◌+◌, ◌++◌, ◌≤◌, All, length, map, reverse, vec_capacity, vec_len}
use Rattle.owned_shards.specs.Shares.{IsUnsurveyed}
use Rattle.owned_shards.specs.Wholes.{Begun}
use Rattle.owned_shards.proofs.share.Share.survey.Given as goal

-- the shards that are left, and those that were surveyed, the last first
abbrev pub invariant-loop-unread : goal.invariant-loop-unread
invariant-loop-unread g l = record {
  unread : All (IsUnsurveyed g.R.RunName.run) l.self.unread.items;
  numbers : map (λ s. s.number) l.self.shards.items ++ reverse (map (λ s. s.number) l.self.unread.items) ≡ reverse (map (λ s. s.number) l.fn.self.unread.items);
  begun : All (Begun g.R.RunName.run) l.self.shards.items;
  room : vec_len l.self.unread + vec_len l.self.shards ≤ vec_capacity l.self.shards;
  buf : length l.buf ≡ length l.fn.buf;
}

abbrev pub decreases-loop-unread : goal.decreases-loop-unread
decreases-loop-unread g l = vec_len l.self.unread
