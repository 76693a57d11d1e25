use Rattle.chunk_store.proofs.Paths.{temporary_apart}
use Rattle.chunk_store.proofs.laws.temporary_is_no_path.Goals as goal

pub returns : goal.returns
returns c = record { only = temporary_apart }
