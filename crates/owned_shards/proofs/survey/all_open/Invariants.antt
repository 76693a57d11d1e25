use Rattle.std.proofs.Common.{◌≡◌, map}
use Rattle.owned_shards.specs.Wholes.{open_below}
use Rattle.owned_shards.proofs.survey.all_open.Given as goal

abbrev pub invariant-loop-number : goal.invariant-loop-number
invariant-loop-number g l = map (λ f. f.items) l.fates.items ≡ open_below g.R.RunName.run l.number
