use Rattle.std.proofs.Common.{arith}
use Rattle.std.proofs.lemmas.Grind.{common_steps}
use Rattle.dsy_base.specs.Folders.{temporary_of}
use Rattle.dsy_base.proofs.temporary.temporary_name.Goals as goal

pub returns : goal.returns
unfolding temporary_of
returns c = grind (arith, common_steps)
