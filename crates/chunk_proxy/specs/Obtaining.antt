-- How a chunk that is asked for is obtained, and what the reply tells of it.
use Rattle.std.specs.Prelude.{◌≡◌, ◌≢◌, ℕ, ◌≤◌, ◌⊎◌, List, length, take, Option, Some, None, IfOk, Result, Ok, Err}
use Rattle.cache_store.specs.Through.{Behind, FromShelf, FromStores}
use Rattle.cache_store.specs.declared.cached.Got.{Got}
use Rattle.cache_store.specs.declared.cached.Kept.TheVariants as kept
use Rattle.caibx_fields.specs.Limits.{size_limit}
use Rattle.chunk_server.specs.Answers.{Answer, bare}
use Rattle.chunk_server.specs.Reads.{answer_by}
use Rattle.chunk_server.specs.declared.chunk_file.ReadMethod.{ReadMethod}
use Rattle.chunk_server.specs.declared.chunk_file.ReadMethod.TheVariants as method
use Rattle.chunk_store.specs.Digests.{digest_of}
use Rattle.chunk_store.specs.declared.id.ChunkId.{ChunkId}
use Rattle.chunk_store.specs.declared.id.DigestKind.{DigestKind}
use Rattle.chunk_store.specs.declared.store.Store.{Ghosts as StoreWords}
use Rattle.dsy_base.specs.Maps.{Map}
use Rattle.http_wire.specs.declared.request.Act.{Act}
use Rattle.http_wire.specs.declared.request.Act.TheVariants as act
use Rattle.store_chain.specs.Queries.{FillsQuery, query_of}
use Rattle.store_chain.specs.declared.query.Query.{Query}
use Rattle.store_chain.specs.declared.refused.Refused.{Refused}
use Rattle.store_chain.specs.declared.refused.Refused.TheVariants as refused

-- the chunk of this id is wanted, of any size up to 64 MiB
abbrev pub any_size : DigestKind → ChunkId → Query
any_size kind id = query_of kind id None size_limit

-- the bytes have this digest, and are at most 64 MiB
pub record IsRightChunk (kind : DigestKind) (id b : List ℕ) : Type 0 where
  pub named : digest_of kind b ≡ id
  pub few : length b ≤ size_limit

-- what the reply tells of a refusal of the stores: that there is no chunk, or that a store has failed. For want of
-- memory no reply is sent
abbrev pub AnswersRefusal : Refused → Answer → Type 0
AnswersRefusal refused.Missing r = r ≡ bare 404
AnswersRefusal (refused.Damaged store shows) r = r ≡ bare 404
AnswersRefusal (refused.StoreFault store) r = r ≡ bare 500
AnswersRefusal refused.Memory r = ⊥

-- what the reply tells of what was obtained: the chunk, or why there is none
abbrev pub TellsOf : ReadMethod → Result Got Refused → List ℕ → Answer → Type 0
TellsOf m (Ok got) out r = (got.kept ≢ kept.Memory) × (r ≡ answer_by m (Some (take got.size out)))
TellsOf m (Err x) out r = AnswersRefusal x r

module _ {F S : Type 0} (files : F → Option (Map (List ℕ))) (place : F → List ℕ) (faults : F → ℕ)
    (store : StoreWords S) where
  -- the chunk was obtained so, in one call, from the cache or from the stores
  abbrev pub ObtainsSo : ChunkId → Behind F S → Behind F S → Result Got Refused → List ℕ → Type 0
  ObtainsSo id old new r out = FromShelf files place faults (any_size old.chain.kind id) old new r out
      ⊎ FromStores files place faults store.holds store.members store.said store.faults store.may_lack_memory
      store.asked store.queried (any_size old.chain.kind id) old new r out

  -- the chunk was sought in one call, and the reply tells how that ended
  pub record TellsChunk (m : ReadMethod) (id : ChunkId) (old new : Behind F S) (r : Answer) : Type 0 where
    pub obtained : Result Got Refused
    pub out : List ℕ
    pub fills : IfOk obtained (λ got. FillsQuery (any_size old.chain.kind id) got.size out)
    pub ends : ObtainsSo id old new obtained out
    pub tells : TellsOf m obtained out r

  -- the chunk was sought in at most one call, and no reply is sent
  abbrev pub SeeksChunk : ChunkId → Behind F S → Behind F S → Type 0
  SeeksChunk id old new = (new ≡ old) ⊎ ((r : Result Got Refused) × (out : List ℕ)
      × IfOk r (λ got. FillsQuery (any_size old.chain.kind id) got.size out) × ObtainsSo id old new r out)

  -- the reply to a request: a chunk that is asked for is sought once. Nothing else changes anything
  abbrev pub RepliesSo : Act → Behind F S → Behind F S → Answer → Type 0
  RepliesSo (act.Get id) old new r = TellsChunk method.Get id old new r
  RepliesSo (act.Head id) old new r = TellsChunk method.Head id old new r
  RepliesSo (act.Put id) old new r = (r ≡ bare 404) × (new ≡ old)
  RepliesSo act.Lost old new r = (r ≡ bare 404) × (new ≡ old)
  RepliesSo (act.Refuse status) old new r = Unit {0}
