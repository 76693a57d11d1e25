use Rattle.std.proofs.Common.{◌≡◌, length, IfSome, subst}
use Rattle.caibx_codec.specs.Listing.{count_of}
use Rattle.owned_shards.proofs.Putting.{counted, right, sized}
use Rattle.owned_shards.specs.Wholes.{Whole}
use Rattle.range_survey.specs.Fates.{SettledRight}
use Rattle.owned_shards.proofs.shards.ShardsLedger.rules.Goals as goal

pub returns-clause-counted : goal.returns-clause-counted
returns-clause-counted g c = subst (λ (w : Whole). length w.fates ≡ count_of g.R.RunName.run.listing) c.self.view_is
    (counted g.R.RunName.run (g.T.Target.left c.self.inside.rest) g.T.View.tells c.self.inside.shards.items c.self.invariant.1)

pub returns-clause-bytes : goal.returns-clause-bytes
returns-clause-bytes g c = subst (λ (w : Whole). IfSome w.held.bytes (λ t. length t ≡ w.held.size)) c.self.view_is
    (sized g.R.RunName.run (g.T.Target.left c.self.inside.rest) g.T.View.tells c.self.inside.shards.items c.self.invariant.1)

pub returns-clause-right : goal.returns-clause-right
returns-clause-right g c = subst (λ (w : Whole). IfSome w.held.bytes (λ t. SettledRight g.R.RunName.run.listing t w.fates (count_of g.R.RunName.run.listing))) c.self.view_is
    (right g.R.RunName.run (g.T.Target.left c.self.inside.rest) g.T.View.tells c.self.inside.shards.items c.self.invariant.1)
