use Rattle.std.proofs.Common.{subst}
use Rattle.caibx_codec.specs.Listing.{IsValid}
use Rattle.caibx_codec.proofs.index.Index.valid.Goals as goal

pub returns : goal.returns
returns c = subst IsValid c.self.view_is c.self.invariant
