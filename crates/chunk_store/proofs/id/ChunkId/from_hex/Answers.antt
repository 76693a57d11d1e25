use Rattle.std.proofs.Common.{refl}
use Rattle.std.proofs.lemmas.Bool.{false≢true}
use Rattle.chunk_store.proofs.Digits.{digits_from_id, no_refusal, id_again, id_not_refused}
use Rattle.chunk_store.proofs.id.ChunkId.from_hex.Goals as goal

pub returns-in-Ok-clause-exactly : goal.returns-in-Ok-clause-exactly
returns-in-Ok-clause-exactly c = (λ _. digits_from_id _ _ c.in-Ok.ensures, λ _. refl)

pub returns-in-Ok-clause-known : goal.returns-in-Ok-clause-known
returns-in-Ok-clause-known c = id_again _ _ c.in-Ok.ensures

pub returns-in-Err-clause-exactly : goal.returns-in-Err-clause-exactly
returns-in-Err-clause-exactly c = (λ h. absurd (false≢true h), no_refusal _ _ c.in-Err.ensures)

pub returns-in-Err-clause-known : goal.returns-in-Err-clause-known
returns-in-Err-clause-known c = id_not_refused _ _ c.in-Err.ensures
