-- Why the chunk of an entry isn't read. c and d are the stores before and afterwards.
use Rattle.std.specs.Prelude.{◌≡◌, ◌⊎◌, ℕ, List, map, Some, slice_index}
use Rattle.chunk_store.specs.declared.id.ChunkId.{ChunkId}
use Rattle.chunk_store.specs.declared.store.Store.{Ghosts as StoreWords}
use Rattle.dsy_base.specs.Counts.{Rose}
use Rattle.dsy_base.specs.Maps.{Map}
use Rattle.store_chain.specs.Chains.{AsksOnce, Chained}
use Rattle.store_chain.specs.Giving.{LacksAll}
use Rattle.store_chain.specs.Queries.{query_of}
use Rattle.store_chain.specs.Refusals.{Refuses}
use Rattle.store_chain.specs.declared.refused.Refused.{Refused}
use Rattle.store_chain.specs.declared.refused.Refused.TheVariants as reason
use Rattle.image_reader.specs.declared.refused.ReadRefused.{ReadRefused}
use Rattle.image_reader.specs.declared.refused.ReadRefused.TheVariants as reads
use Rattle.image_reader.specs.declared.want.Want.{Want}

-- the refusal where the stores refuse the chunk of an entry
abbrev pub read_refused_of : ℕ → ChunkId → Refused → ReadRefused
read_refused_of entry id reason.Missing = reads.Missing entry id
read_refused_of entry id (reason.Damaged s x) = reads.Damaged entry id s x
read_refused_of entry id (reason.StoreFault s) = reads.StoreFault s
read_refused_of entry id reason.Memory = reads.Memory

module _ {S : Type 0} (store : StoreWords S) where
  -- the stores, asked once for the chunk, refused it for this reason
  pub record RefusesWant (w : Want) (r : Refused) (c d : Chained S) : Type 0 where
    pub asked : AsksOnce store.asked store.queried w.id.0 c d
    pub refused : Refuses store.said store.faults store.may_lack_memory (query_of c.kind w.id (Some w.size) w.size)
        c.stores d.stores r
    pub lacks : (maps : List (Map (List ℕ))) → map store.holds c.stores ≡ map Some maps
        → LacksAll (query_of c.kind w.id (Some w.size) w.size) maps r
    pub cause : (s : ℕ) → r ≡ reason.StoreFault s →
        Rose (slice_index (map store.faults c.stores) s) (slice_index (map store.faults d.stores) s)

  -- a chunk that isn't kept wasn't read: the stores refused it; or there was no memory for it, before the stores were
  -- asked or once they had given it
  abbrev pub MissFails : Want → Refused → Chained S → Chained S → Type 0
  MissFails w r c d = RefusesWant w r c d
      ⊎ ((r ≡ reason.Memory) × ((d ≡ c) ⊎ AsksOnce store.asked store.queried w.id.0 c d))
