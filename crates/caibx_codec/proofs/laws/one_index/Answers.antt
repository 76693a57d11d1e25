use Rattle.caibx_codec.proofs.Again.{one_index}
use Rattle.caibx_codec.proofs.laws.one_index.Goals as goal

pub returns : goal.returns
returns c = record { only = one_index }
