use Rattle.chunk_server.proofs.Exact.{exact}
use Rattle.chunk_server.proofs.laws.turns_are_exact.Goals as goal

pub returns : goal.returns
returns c = record { value = exact }
