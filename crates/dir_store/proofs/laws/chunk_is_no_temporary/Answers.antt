use Rattle.dir_store.proofs.Components.{is_temporary-path_of}
use Rattle.dir_store.proofs.laws.chunk_is_no_temporary.Goals as goal

pub returns : goal.returns
returns c = record { only = is_temporary-path_of }
