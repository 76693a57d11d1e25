use Rattle.buzhash_cut.proofs.Uniqueness.{index_many}
use Rattle.buzhash_cut.proofs.laws.many_cuts.Goals as goal

pub returns : goal.returns
returns c = record { value = index_many }
