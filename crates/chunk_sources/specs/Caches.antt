-- The cache among the sources, where there is one.
use Rattle.std.specs.Prelude.{◌≡◌, ℕ, ◌<◌, List, [], ◌∷◌, ◌++◌, length, Option, Some, None, IsSome, IfSome, IsSomeAnd}
use Rattle.std.specs.List.{Any}
use Rattle.std.specs.Option.{option_map}
use Rattle.cache_store.specs.Giving.{GiveOneSize, SomeGives}
use Rattle.cache_store.specs.Shelves.{MayAdd, Others, Shelf, Shelved, Stocks, shelf_of}
use Rattle.caibx_codec.specs.Listing.{Listing, count_of, id_of, kind_of, size_of}
use Rattle.chunk_store.specs.Folders.{chunks}
use Rattle.chunk_store.specs.Giving.{IsChunk}
use Rattle.chunk_store.specs.declared.id.DigestKind.{DigestKind}
use Rattle.chunk_store.specs.declared.store.Store.{Ghosts as StoreWords}
use Rattle.dsy_base.specs.Counts.{Quiet, Rose}
use Rattle.dsy_base.specs.Maps.{Map}
use Rattle.dsy_base.specs.declared.look.Look.{Ghosts as LookWords}
use Rattle.extract_plan.specs.Deal.{Deal, first_of, want_id}
use Rattle.store_chain.specs.Giving.{SomeHolds}

-- what is seen of it, where it is a shelf of one's own
abbrev pub seen : {F : Type 0} → LookWords F → Option (Shelved F) → Option Shelf
seen look cache = option_map (shelf_of look.files look.place look.faults) cache

-- the chunks that it holds, where it tells them: one map. Where there is no cache there is none. Of a shared one those
-- that it held before anybody added any
abbrev pub cached_in : Option Shelf → Option (List (Map (List ℕ)))
cached_in None = Some []
cached_in (Some s) = option_map (λ m. chunks m ∷ []) s.files

-- the maps of which one holds what a shared shelf gives, where they are told: those chunks, and the stores of what
-- others add
abbrev pub shared_maps : Option (Map (List ℕ)) → Option (List (Map (List ℕ))) → Option (List (Map (List ℕ)))
shared_maps None stores = None
shared_maps (Some m) stores = option_map (λ maps. chunks m ∷ maps) stores

-- the same of any shelf: where it isn't shared, its chunks alone
abbrev pub maps_with : Option (Map (List ℕ)) → Option Others → Option (List (Map (List ℕ)))
maps_with files None = option_map (λ m. chunks m ∷ []) files
maps_with files (Some o) = shared_maps files o.stores

-- the maps of which one holds what the cache gives, where they are told
abbrev pub given_maps : Option Shelf → Option (List (Map (List ℕ)))
given_maps None = Some []
given_maps (Some s) = maps_with s.files s.others

-- nobody else adds to it
abbrev pub IsAlone : Option Shelf → Type 0
IsAlone cache = IfSome cache (λ s. s.others ≡ None)

-- this holds where others add to it too
abbrev pub IfShared : Option Shelf → Type 0 → Type 0
IfShared cache P = IfSome cache (λ s. IfSome s.others (λ _. P))

-- what others add to it under the id has this size
abbrev pub AddsSize : List ℕ → ℕ → Option Shelf → Type 0
AddsSize id size cache =
    IfSome cache (λ s. IfSome s.others (λ o.
    (b : List ℕ) → MayAdd o.kind o.pairs o.stores id b → length b ≡ size))

-- others add to it under the id what one of these maps holds, and nothing of another size where it gave the chunk
pub record OthersAddOnly (kind : DigestKind) (id : List ℕ) (size : ℕ) (cache : Option Shelf)
    (cached maps : List (Map (List ℕ))) : Type 0 where
  pub held : IfSome cache (λ s. IfSome s.others (λ o. (b : List ℕ) → MayAdd o.kind o.pairs o.stores id b
      → Any (λ m. m id ≡ Some b) maps))
  pub sized : SomeGives kind id size cached → AddsSize id size cache

-- how often it has failed
abbrev pub cache_faults : Option Shelf → ℕ
cache_faults None = 0
cache_faults (Some s) = s.faults

-- it didn't have the chunk when the stores were asked, and doesn't have it now; or it failed
abbrev pub CacheLacks : DigestKind → List ℕ → ℕ → Option Shelf → Option Shelf → Type 0
CacheLacks kind id size old new = (now : List (Map (List ℕ))) → cached_in new ≡ Some now → SomeGives kind id size now
    → Rose (cache_faults old) (cache_faults new)

-- where it gave the chunk, and others add none of another size under the id, it has failed
abbrev pub CacheFailed : DigestKind → List ℕ → ℕ → Option Shelf → Option Shelf → Type 0
CacheFailed kind id size old new = IfSome (cached_in old) (λ cached. SomeGives kind id size cached
    → AddsSize id size old → Rose (cache_faults old) (cache_faults new))

-- chunks were added to it
abbrev pub Stocked : (List ℕ → List ℕ → Type 0) → Option Shelf → Option Shelf → Type 0
Stocked Takes None None = Unit {0}
Stocked Takes None (Some t) = ⊥
Stocked Takes (Some s) None = ⊥
Stocked Takes (Some s) (Some t) = Stocks Takes s t

-- what is added for a chunk of this id and size: that chunk, which some store holds
abbrev pub TakesChunk : {S : Type 0} → StoreWords S → DigestKind → List ℕ → ℕ → List S → List ℕ → List ℕ → Type 0
TakesChunk store kind id size stores q b = (q ≡ id) × IsChunk kind id size b × SomeHolds store.members stores id b

-- what is added for these wants
abbrev pub TakesWants : {S : Type 0} → StoreWords S → Listing → Deal → (ℕ → Type 0) → List S → List ℕ → List ℕ → Type 0
TakesWants store l d Among stores q b = (w : ℕ) × Among w
    × TakesChunk store (kind_of l) (want_id l d w) (size_of l (first_of d w)) stores q b

-- what is added for the entries of an index
abbrev pub TakesListed : {S : Type 0} → StoreWords S → Listing → List S → List ℕ → List ℕ → Type 0
TakesListed store l stores q b = (i : ℕ) × (i < count_of l)
    × TakesChunk store (kind_of l) (id_of l i) (size_of l i) stores q b

-- what others add to the cache is what these stores give for the entries of an index
abbrev pub OthersAddListed : {S : Type 0} → StoreWords S → Listing → List S → Option Shelf → Type 0
OthersAddListed store l stores cache = IfSome cache (λ s. IfSome s.others
    (λ o. (q b : List ℕ) → MayAdd o.kind o.pairs o.stores q b → TakesListed store l stores q b))

-- the index lists the id with this size
abbrev pub IsListedAs : Listing → List ℕ → ℕ → Type 0
IsListedAs l id size = (i : ℕ) × (i < count_of l) × (id_of l i ≡ id) × (size_of l i ≡ size)

-- where there is a cache: of an id that the index lists with several sizes, the cache and the stores, which hold these,
-- have chunks of one size alone
abbrev pub HaveOneSize : Listing → Option Shelf → List (Map (List ℕ)) → List (Map (List ℕ)) → Type 0
HaveOneSize l cache cached maps = IsSome cache → GiveOneSize (IsListedAs l) (kind_of l) (cached ++ maps)

-- the cache gives the chunk, and doesn't fail; and of the sizes that the index lists with the id, the stores hold
-- chunks of this one alone, so that no other chunk is added under the id. So it is where the index lists the id with
-- one size
pub record CacheGives {S : Type 0} (store : StoreWords S) (l : Listing) (stores : List S) (id : List ℕ) (size : ℕ)
    (old new : Option Shelf) : Type 0 where
  pub gives : IsSomeAnd (cached_in old) (SomeGives (kind_of l) id size)
  pub sound : Quiet (cache_faults old) (cache_faults new)
  pub one_size : (n : ℕ) (b : List ℕ) → IsListedAs l id n → IsChunk (kind_of l) id n b
      → SomeHolds store.members stores id b → n ≡ size
