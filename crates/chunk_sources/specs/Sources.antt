-- Where chunks come from.
use Rattle.std.specs.Prelude.{◌≡◌, ℕ, ◌≤◌, List, slice_index_or, slice_index, Option, Some, None, IsSomeAnd, map, Bool}
use Rattle.std.specs.Prelude.{IsSome, IsTrue}
use Rattle.std.specs.List.{All, Any}
use Rattle.cache_store.specs.Shelves.{Shelf}
use Rattle.chunk_sources.specs.Caches.{cache_faults, cached_in}
use Rattle.chunk_store.specs.Digests.{digest_of}
use Rattle.chunk_store.specs.Giving.{GivesChunk}
use Rattle.chunk_store.specs.Members.{GroupsAgree, maps_of}
use Rattle.chunk_store.specs.declared.id.DigestKind.{DigestKind}
use Rattle.chunk_store.specs.declared.store.Store.{Ghosts as StoreWords}
use Rattle.dsy_base.specs.Bytes.{Held}
use Rattle.dsy_base.specs.Counts.{Quiet, Rose}
use Rattle.dsy_base.specs.Maps.{Map}
use Rattle.dsy_base.specs.declared.view.View.{Ghosts as ViewWords}
use Rattle.extract_plan.specs.Seeds.{bytes_at, faults_in, seed_held, place_end}
use Rattle.extract_plan.specs.declared.seed.Seed.{Seed}
use Rattle.extract_plan.specs.declared.seed.SeedPlace.{SeedPlace}
use Rattle.store_chain.specs.Chains.{Chained}
use Rattle.store_chain.specs.Faults.{EachQuiet, NoneFalls}

-- a view with this stands at the place, inside it, and the bytes there are told and have the id, by the place's kind
abbrev pub GivesAt : Option Held → SeedPlace → List ℕ → Type 0
GivesAt None p id = ⊥
GivesAt (Some h) p id = (place_end p ≤ h.size) × IsSomeAnd h.bytes (λ t. digest_of p.kind (bytes_at p t) ≡ id)

-- one of the seeds, whose views hold this, gives the id from one of the places
abbrev pub HeldAt : List (Option Held) → SeedPlace → List ℕ → Type 0
HeldAt views p id = GivesAt (slice_index_or views p.seed None) p id

-- a seed gives the id from one of these places
abbrev pub SeedsGive : List (Option Held) → List SeedPlace → List ℕ → Type 0
SeedsGive views places id = Any (λ p. HeldAt views p id) places

-- each seed that gives the id from one of the places has failed: its count went from old to new
abbrev pub SeedsFailed : List (Option Held) → List SeedPlace → List ℕ → List ℕ → List ℕ → Type 0
SeedsFailed views places id old new =
    All (λ p. HeldAt views p id → Rose (slice_index old p.seed) (slice_index new p.seed)) places

-- what the views of seeds hold
abbrev pub views_of : {V : Type 0} → ViewWords V → List (Seed V) → List (Option Held)
views_of view seeds = map (seed_held view.held) seeds

-- how often each has failed
abbrev pub counts_of : {V : Type 0} → ViewWords V → List (Seed V) → List ℕ
counts_of view seeds = map (faults_in view.faults) seeds

-- the seeds hold what they held, and no count of their faults has fallen
pub record KeepsSeeds {V : Type 0} (view : ViewWords V) (old new : List (Seed V)) : Type 0 where
  pub held : views_of view new ≡ views_of view old
  pub never_fall : NoneFalls (counts_of view old) (counts_of view new)

-- where there is a seed with a view, whose type tells so
abbrev pub Telling : Bool → List (Option Held) → Type 0
Telling tells views = Any (λ v. IsSome v) views → IsTrue tells

-- what chunks are got from, as it stands: how often the target has failed, the seeds, the cache, and the chain
pub record Sources (S V : Type 0) : Type 0 where
  pub faults : ℕ
  pub seeds : List (Seed V)
  pub cache : Option Shelf
  pub chain : Chained S

-- all of it as one value
abbrev pub sources : {S V : Type 0} → ℕ → List (Seed V) → Option Shelf → Chained S → Sources S V
sources faults seeds cache chain = record { faults = faults; seeds = seeds; cache = cache; chain = chain }

-- if one member of a store gives the chunk of this id and size, all members of that store do
abbrev pub Agree : {S : Type 0} → StoreWords S → DigestKind → List ℕ → ℕ → List S → Type 0
Agree store kind id size stores = GroupsAgree (λ m. GivesChunk kind id size (m id)) (map store.members stores)

-- this id and this size
abbrev pub IsThis : List ℕ → ℕ → List ℕ → ℕ → Type 0
IsThis id size q n = (q ≡ id) × (n ≡ size)

-- nothing of it fails: the target, the seeds, the cache and the stores, whose members hold these maps, are quiet, and
-- the seeds' views tell, where there are any. The members of a store agree on each chunk of this kind, and of such an
-- id and size
pub record SourcesQuiet {S V : Type 0} (store : StoreWords S) (view : ViewWords V) (kind : DigestKind)
    (Among : List ℕ → ℕ → Type 0) (old new : Sources S V) (cached maps : List (Map (List ℕ))) : Type 0 where
  pub target : Quiet old.faults new.faults
  pub telling : Telling view.tells (views_of view old.seeds)
  pub seeds : EachQuiet (counts_of view old.seeds) (counts_of view new.seeds)
  pub told_cache : cached_in old.cache ≡ Some cached
  pub cache : Quiet (cache_faults old.cache) (cache_faults new.cache)
  pub told : maps_of store.members old.chain.stores ≡ Some maps
  pub agree : (id : List ℕ) (size : ℕ) → Among id size → Agree store kind id size old.chain.stores
  pub stores : EachQuiet (map store.faults old.chain.stores) (map store.faults new.chain.stores)
