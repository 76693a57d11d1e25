use Rattle.chunk_proxy.proofs.Exact.{talks_so}
use Rattle.chunk_proxy.proofs.laws.talks_are_exact.Goals as goal

pub returns : goal.returns
returns c = record { value = talks_so }
