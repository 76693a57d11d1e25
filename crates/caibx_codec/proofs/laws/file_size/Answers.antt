use Rattle.caibx_codec.proofs.Written.{file_length}
use Rattle.caibx_codec.proofs.laws.file_size.Goals as goal

pub returns : goal.returns
returns c = record { size = file_length }
