-- When the chain of stores is asked for a chunk, and what it means that no source gave it.
use Rattle.std.specs.Prelude.{◌≡◌, ◌⊎◌, ◌++◌, ℕ, List, map, Some, true, Option, slice_index, IsSome, IsTrue}
use Rattle.cache_store.specs.Giving.{SomeGives}
use Rattle.cache_store.specs.Shelves.{Shelf}
use Rattle.chunk_sources.specs.Caches.{CacheFailed, given_maps}
use Rattle.chunk_sources.specs.Sources.{SeedsFailed, SeedsGive, Sources, Telling, counts_of, views_of}
use Rattle.chunk_sources.specs.Wants.{IsAmong, Wanted}
use Rattle.chunk_store.specs.declared.id.ChunkId.{ChunkId}
use Rattle.chunk_store.specs.declared.id.DigestKind.{DigestKind}
use Rattle.chunk_store.specs.Members.{maps_of}
use Rattle.chunk_store.specs.declared.store.Store.{Ghosts as StoreWords}
use Rattle.dsy_base.specs.Bytes.{Held}
use Rattle.dsy_base.specs.Counts.{Rose}
use Rattle.dsy_base.specs.Maps.{Map}
use Rattle.dsy_base.specs.declared.view.View.{Ghosts as ViewWords}
use Rattle.range_survey.specs.Fates.{settled}
use Rattle.range_survey.specs.declared.fate.Fate.{Fate}
use Rattle.store_chain.specs.Chains.{AsksOnce}
use Rattle.store_chain.specs.Giving.{LacksAll, LacksTogether}
use Rattle.store_chain.specs.Refusals.{Refuses}
use Rattle.store_chain.specs.Queries.{query_of}
use Rattle.store_chain.specs.declared.refused.Refused.{Refused}
use Rattle.store_chain.specs.declared.refused.Refused.TheVariants as refused
use Rattle.store_chain.specs.declared.query.Query.{Query}

-- what is asked of a chain for a chunk: its id and size, into just that room
abbrev pub chunk_of : DigestKind → ChunkId → ℕ → Query
chunk_of kind id size = query_of kind id (Some size) size

-- a settled one of these entries couldn't be read: the target's count of faults went from old to new
abbrev pub CopiesFailed : List Fate → List ℕ → ℕ → ℕ → Type 0
CopiesFailed fates entries old new = (i : ℕ) → IsAmong entries i → settled fates i ≡ true → Rose old new

-- the chain was asked once for the chunk, since no settled entry, no seed and no cache gave it
pub record AskedLast {S V : Type 0} (store : StoreWords S) (view : ViewWords V) (q : Wanted) (fates : List Fate)
    (old new : Sources S V) : Type 0 where
  pub once : AsksOnce store.asked store.queried q.id old.chain new.chain
  pub copies : CopiesFailed fates q.entries old.faults new.faults
  pub seeds : SeedsFailed (views_of view old.seeds) q.places q.id (counts_of view old.seeds) (counts_of view new.seeds)
  pub cache : CacheFailed q.kind q.id q.size old.cache new.cache

-- where a chunk came from, if an entry of it was settled: an entry that was settled before, a seed, or one that holds
-- these maps: the cache or a store
abbrev pub Had : List Fate → Wanted → List (Option Held) → List (Map (List ℕ)) → Type 0
Had fates q views maps = ((j : ℕ) × IsAmong q.entries j × (settled fates j ≡ true))
    ⊎ (SeedsGive views q.places q.id ⊎ SomeGives q.kind q.id q.size maps)

-- so it came where seeds, cache and stores tell
abbrev pub HadOver : {S V : Type 0} → StoreWords S → ViewWords V → List Fate → Wanted → Sources S V → Type 0
HadOver store view fates q s = Telling view.tells (views_of view s.seeds) → (cached maps : List (Map (List ℕ)))
    → given_maps s.cache ≡ Some cached → maps_of store.members s.chain.stores ≡ Some maps
    → Had fates q (views_of view s.seeds) (cached ++ maps)

-- the stores refused what is wanted, answered so, and lack it so if they tell what they hold, or if their members tell
-- it and agree
pub record RefusedBy {S : Type 0} (store : StoreWords S) (w : Query) (old new : List S) (r : Refused) : Type 0 where
  pub told : Refuses store.said store.faults store.may_lack_memory w old new r
  pub lacks : (maps : List (Map (List ℕ))) → map store.holds old ≡ map Some maps → LacksAll w maps r
  pub together : LacksTogether w (map store.members old) r
  pub cause : (s : ℕ) → r ≡ refused.StoreFault s
      → Rose (slice_index (map store.faults old) s) (slice_index (map store.faults new) s)

-- the stores may lack memory, or there is a cache
abbrev pub MayLack : {S : Type 0} → StoreWords S → Option Shelf → Type 0
MayLack store cache = IsTrue store.may_lack_memory ⊎ IsSome cache
