use Rattle.caibx_codec.proofs.Written.{file_valid}
use Rattle.caibx_codec.proofs.laws.file_is_read.Goals as goal

pub returns : goal.returns
returns c = record { bytes = file_valid c.args.index.now c.valid.ensures }
