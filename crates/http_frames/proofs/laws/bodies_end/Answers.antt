use Rattle.http_frames.proofs.Ahead.{piece_lessens}
use Rattle.http_frames.proofs.laws.bodies_end.Goals as goal

pub returns : goal.returns
returns c = record { value = piece_lessens }
