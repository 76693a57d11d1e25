use Rattle.buzhash_cut.proofs.Uniqueness.{index_one}
use Rattle.buzhash_cut.proofs.laws.index_is_one.Goals as goal

pub returns : goal.returns
returns c = record { value = index_one }
