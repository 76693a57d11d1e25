use Rattle.std.proofs.Common.{◌≡◌, ◌+◌, ◌≤◌, length, map, reverse, vec_capacity}
use Rattle.dsy_base.specs.Splits.{extent}
use Rattle.owned_shards.specs.Wholes.{ShardsWith, extents_below, open_below}
use Rattle.owned_shards.specs.Shares.{IsUnsurveyed}
use Rattle.owned_shards.proofs.survey.unread_shards.Given as goal

-- the parts that are left, their fates, and the shards of the others, the first last
abbrev pub invariant-loop-part : goal.invariant-loop-part
invariant-loop-part g l =
    (map (λ p. extent (g.P.View.held p)) l.parts.items ≡ extents_below g.R.RunName.run (length l.parts.items))
    × (map (λ f. f.items) l.fates.items ≡ open_below g.R.RunName.run (length l.parts.items))
    × ShardsWith (IsUnsurveyed g.R.RunName.run) g.R.RunName.run (length l.parts.items) (reverse l.unread.items)
    × (length l.unread.items + length l.parts.items ≡ g.R.RunName.run.shards)
    × (g.R.RunName.run.shards ≤ vec_capacity l.unread)
    × (g.R.RunName.run.shards ≤ vec_capacity l.parts)

abbrev pub decreases-loop-part : goal.decreases-loop-part
decreases-loop-part g l = length l.parts.items
