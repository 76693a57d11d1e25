use Rattle.buzhash_cut.proofs.Twins.{image_or_twins}
use Rattle.buzhash_cut.proofs.laws.cutting.Goals as goal

pub returns : goal.returns
returns c = record { value = image_or_twins }
