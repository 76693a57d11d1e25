use Rattle.http_frames.proofs.Spelled.{spelled}
use Rattle.http_frames.proofs.laws.chunks_are_read.Goals as goal

pub returns : goal.returns
returns c = record { value = spelled }
