use Rattle.chunk_store.proofs.Paths.{path_listed, temporary_listed}
use Rattle.chunk_store.proofs.laws.path_is_listed.Goals as goal

pub returns : goal.returns
returns c = record { listed = path_listed; taken = temporary_listed }
