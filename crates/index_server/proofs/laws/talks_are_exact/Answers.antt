use Rattle.index_server.proofs.Exact.{talk_exact}
use Rattle.index_server.proofs.laws.talks_are_exact.Goals as goal

pub returns : goal.returns
returns c = record { value = talk_exact }
