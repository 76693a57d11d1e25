use Rattle.chunk_store.proofs.Paths.{path_one}
use Rattle.chunk_store.proofs.laws.path_names_one_id.Goals as goal

pub returns : goal.returns
returns c = record { named = path_one }
