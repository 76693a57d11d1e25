use Rattle.dir_store.proofs.Components.{is_temporary-temporary_of}
use Rattle.dir_store.proofs.laws.put_leaves_a_temporary.Goals as goal

pub returns : goal.returns
returns c = record { named = is_temporary-temporary_of }
