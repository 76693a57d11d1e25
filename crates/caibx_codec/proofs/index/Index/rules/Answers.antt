use Rattle.std.proofs.Common.{subst}
use Rattle.caibx_codec.specs.Listing.{Rules}
use Rattle.caibx_codec.proofs.Rules.{rules_hold}
use Rattle.caibx_codec.proofs.index.Index.rules.Goals as goal

pub returns : goal.returns
returns c = subst Rules c.self.view_is (rules_hold _ c.self.invariant)
