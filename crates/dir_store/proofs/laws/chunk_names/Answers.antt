use Rattle.dir_store.proofs.Ids.{id_is, is_id}
use Rattle.dir_store.proofs.laws.chunk_names.Goals as goal

pub returns : goal.returns
returns c = record { exactly = λ q id. (id_is q id, λ p. is_id q id p.0 p.1) }
