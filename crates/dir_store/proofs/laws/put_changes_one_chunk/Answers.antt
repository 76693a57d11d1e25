use Rattle.dir_store.proofs.Puts.{chunks_left, chunks_put}
use Rattle.dir_store.proofs.laws.put_changes_one_chunk.Goals as goal

pub returns-clause-holds : goal.returns-clause-holds
returns-clause-holds c = λ id b m is. chunks_put id is c.path_names_one_id.ensures.named c.temporary_is_no_path.ensures.only m b

pub returns-clause-kept : goal.returns-clause-kept
returns-clause-kept c = λ id x m. chunks_left c.temporary_is_no_path.ensures.only id m x
