use Rattle.locked_shelf.proofs.Keeping.{kept_first}
use Rattle.locked_shelf.proofs.kept.Kept.new.Goals as goal

pub invariant_of-result : goal.invariant_of-result
invariant_of-result g c = (c.requires.kind, kept_first _ _ _ c.requires.opening)
