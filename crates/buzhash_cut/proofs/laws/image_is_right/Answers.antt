use Rattle.buzhash_cut.proofs.Chunks.{image_right}
use Rattle.buzhash_cut.proofs.laws.image_is_right.Goals as goal

pub returns : goal.returns
returns c = record { value = image_right }
