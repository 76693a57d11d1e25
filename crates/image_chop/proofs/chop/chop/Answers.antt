use Rattle.image_chop.proofs.Chopped.{stops_none}
use Rattle.image_chop.proofs.chop.chop.Goals as goal

-- nothing was seen to
pub returns-then-size-length-clause-order : goal.returns-then-size-length-clause-order
returns-then-size-length-clause-order g c = stops_none g.S.Store c.args.index.now _ c.args.store

pub returns-in_default-clause-order : goal.returns-in_default-clause-order
returns-in_default-clause-order g c = stops_none g.S.Store c.args.index.now _ c.args.store
