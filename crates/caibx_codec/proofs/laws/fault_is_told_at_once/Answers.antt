use Rattle.caibx_codec.proofs.Continued.{faultless_begins}
use Rattle.caibx_codec.proofs.laws.fault_is_told_at_once.Goals as goal

pub returns : goal.returns
returns c = record { exactly = faultless_begins }
