-- What filling a cache by an index may answer, and what it does to the cache. l lists the chunks, `holds` gives what a
-- store holds. s0 and s1 are the cache's shelf before and afterwards, c0 and c1 the stores.
use Rattle.std.specs.Prelude.{◌≡◌, ◌⊎◌, ℕ, ◌+◌, ◌<◌, ◌≤◌, List, ◌∷◌, length, map}
use Rattle.std.specs.Prelude.{Option, Some, IfSome, IsSome, Result, Ok, Err, slice_index_or}
use Rattle.std.specs.List.{AllZip}
use Rattle.cache_store.specs.Giving.{GiveOneSize, SomeGives}
use Rattle.cache_store.specs.Shelves.{Shelf, Stocks, held_on}
use Rattle.caibx_codec.specs.Asks.{IsListedGet}
use Rattle.caibx_codec.specs.Listing.{Listing, count_of, id_of, kind_of, size_of}
use Rattle.chunk_store.specs.Asks.{Ask, Get}
use Rattle.chunk_store.specs.Giving.{GivesChunk, IsChunk}
use Rattle.chunk_store.specs.Digests.{digest_of}
use Rattle.chunk_store.specs.declared.id.ChunkId.{ChunkId}
use Rattle.chunk_store.specs.declared.store.Store.{Ghosts as StoreWords}
use Rattle.dsy_base.specs.Counts.{Quiet, Rose}
use Rattle.dsy_base.specs.Maps.{Map}
use Rattle.image_chop.specs.Chopping.{AsksListed}
use Rattle.image_store.specs.PutChunks.{IsListedId}
use Rattle.store_chain.specs.Chains.{AsksOnce, Chained, KeepsStores}
use Rattle.store_chain.specs.Faults.{EachQuiet}
use Rattle.store_chain.specs.Giving.{LacksAll, SomeHolds}
use Rattle.store_chain.specs.Refusals.{GivenBy, Refuses}
use Rattle.store_chain.specs.Queries.{IsWanted, query_of}
use Rattle.store_chain.specs.declared.refused.Refused.{Refused}
use Rattle.store_chain.specs.declared.refused.Refused.TheVariants as refused
use Rattle.store_chain.specs.declared.query.Query.{Query}
use Rattle.cache_fill.specs.declared.fill.FillFault.{FillFault}
use Rattle.cache_fill.specs.declared.fill.FillFault.TheVariants as faults

-- ---- what a cache holds

-- the map gives the chunk of entry i
abbrev pub GivesEntry : Listing → ℕ → Map (List ℕ) → Type 0
GivesEntry l i m = GivesChunk (kind_of l) (id_of l i) (size_of l i) (m (id_of l i))

-- every entry with the id of entry i has its size
abbrev pub HasOneSize : Listing → ℕ → Type 0
HasOneSize l i = (j : ℕ) → j < count_of l → id_of l j ≡ id_of l i → size_of l j ≡ size_of l i

-- bytes with the digest of entry i are held, and of its size where its id is listed with no other
abbrev pub HoldsEntry : Listing → ℕ → Option (List ℕ) → Type 0
HoldsEntry l i held = (b : List ℕ) × (held ≡ Some b) × (digest_of (kind_of l) b ≡ id_of l i)
    × (HasOneSize l i → length b ≡ size_of l i)

-- so it is with the first k entries on a shelf, where it tells what it holds
abbrev pub HoldsTo : Listing → ℕ → Shelf → Type 0
HoldsTo l k s = IfSome (held_on s) (λ m. (i : ℕ) → i < k → HoldsEntry l i (m (id_of l i)))

-- an entry lists this id and this size
abbrev pub ListsSize : Listing → List ℕ → ℕ → Type 0
ListsSize l id size = (i : ℕ) × (i < count_of l) × (id_of l i ≡ id) × (size_of l i ≡ size)

-- the bytes are listed under the id, and some member of the stores holds them there
abbrev pub MayFillCache : {S : Type 0} → (S → Option (List (Map (List ℕ)))) → Listing → List S → List ℕ → List ℕ
    → Type 0
MayFillCache members l stores id b = ((n : ℕ) × ListsSize l id n × IsChunk (kind_of l) id n b)
    × SomeHolds members stores id b

-- ---- where nothing fails

-- the cache, which holds m, or a store that holds one of the maps gives the chunk of entry i
abbrev pub IsGivenBy : Listing → Map (List ℕ) → List (Map (List ℕ)) → ℕ → Type 0
IsGivenBy l m maps i = GivesEntry l i m ⊎ SomeGives (kind_of l) (id_of l i) (size_of l i) maps

-- k is the first entry whose chunk isn't given
abbrev pub IsFirstLost : Listing → Map (List ℕ) → List (Map (List ℕ)) → ℕ → Type 0
IsFirstLost l m maps k = (IsGivenBy l m maps k → ⊥) × ((i : ℕ) → i < k → IsGivenBy l m maps i)

-- what is answered: Ok where each entry's chunk is given, else the first that isn't is named. Want of memory is free
abbrev pub FillsBy : Listing → Map (List ℕ) → List (Map (List ℕ)) → Result Unit FillFault → Type 0
FillsBy l m maps (Ok u) = (i : ℕ) → i < count_of l → IsGivenBy l m maps i
FillsBy l m maps (Err (faults.Missing k id)) = IsFirstLost l m maps k
FillsBy l m maps (Err (faults.Damaged k id s x)) = IsFirstLost l m maps k
FillsBy l m maps (Err (faults.StoreFault s)) = ⊥
FillsBy l m maps (Err faults.CacheFault) = ⊥
FillsBy l m maps (Err faults.Memory) = Unit {0}

-- the cache and the stores tell what they hold, and give one size for each listed id, and none of them failed
pub record FillUnfailed {S : Type 0} (holds : S → Option (Map (List ℕ))) (store_faults : S → ℕ) (l : Listing)
    (m : Map (List ℕ)) (maps : List (Map (List ℕ))) (s0 s1 : Shelf) (c0 c1 : List S) : Type 0 where
  pub held : held_on s0 ≡ Some m
  pub told : map holds c0 ≡ map Some maps
  pub shelf : Quiet s0.faults s1.faults
  pub stores : EachQuiet (map store_faults c0) (map store_faults c1)
  pub sizes : GiveOneSize (ListsSize l) (kind_of l) (m ∷ maps)

-- ---- how it ends

-- how many of the first entries are in the cache then, at least
abbrev pub filled_to : Listing → Result Unit FillFault → ℕ
filled_to l (Ok u) = count_of l
filled_to l (Err (faults.Missing k id)) = k
filled_to l (Err (faults.Damaged k id s x)) = k
filled_to l (Err (faults.StoreFault s)) = 0
filled_to l (Err faults.CacheFault) = 0
filled_to l (Err faults.Memory) = 0

-- the shelf doesn't give the chunk of entry i, or failed
abbrev pub EntryUnfound : Listing → ℕ → Shelf → Shelf → Type 0
EntryUnfound l i old new = IfSome (held_on old) (λ m. GivesEntry l i m → Rose old.faults new.faults)

-- the shelf's files are as before, or it didn't give the chunk of entry i, or failed
abbrev pub IsAside : Listing → ℕ → Shelf → Shelf → Type 0
IsAside l i s t = (t.files ≡ s.files) ⊎ EntryUnfound l i s t

-- what the stores are asked for: the chunk of this id, of the size of entry i
abbrev pub entry_want : Listing → ℕ → ChunkId → Query
entry_want l i id = query_of (kind_of l) id (Some (size_of l i)) (size_of l i)

-- the answer where the stores refuse the chunk of an entry
abbrev pub fill_fault_of : ℕ → ChunkId → Refused → FillFault
fill_fault_of entry id refused.Missing = faults.Missing entry id
fill_fault_of entry id (refused.Damaged s x) = faults.Damaged entry id s x
fill_fault_of entry id (refused.StoreFault s) = faults.StoreFault s
fill_fault_of entry id refused.Memory = faults.Memory

-- ---- how often the stores are asked

-- each store was asked for each id at most once for each of the first k entries that list it, and none whether it has
-- one; the chain counts at most this many calls more
pub record AsksEntries {S : Type 0} (asked queried : S → List ℕ → ℕ) (l : Listing) (k : ℕ) (c0 c1 : Chained S)
    : Type 0 where
  pub stores : AllZip (λ a b. AsksListed l k (asked a) (asked b)) c0.stores c1.stores
  pub queries : map queried c1.stores ≡ map queried c0.stores
  pub no_fewer : c0.asks ≤ c1.asks
  pub calls : c1.asks ≤ c0.asks + k
  pub kind : c1.kind ≡ c0.kind

-- the stores weren't asked where the cache gives each listed chunk and doesn't fail
abbrev pub SparesStores : {S : Type 0} → Listing → Shelf → Shelf → Chained S → Chained S → Type 0
SparesStores l s0 s1 c0 c1 = IfSome (held_on s0) (λ m. ((i : ℕ) → i < count_of l → GivesEntry l i m)
    → Quiet s0.faults s1.faults → c1 ≡ c0)

-- ---- what the call for one entry answers

-- the chunk of one of the first k entries is asked for
abbrev pub IsGetBefore : Listing → ℕ → Ask → Type 0
IsGetBefore l k a = (q : List ℕ) × IsListedId l k q × (a ≡ Get q)

module _ {S : Type 0} (store : StoreWords S) (l : Listing) where
  -- the stores weren't asked, and the files stayed; or the cache didn't give the chunk of entry k, or failed, and they
  -- were asked for it once
  abbrev pub AsksEntry : ℕ → Shelf → Shelf → Chained S → Chained S → Type 0
  AsksEntry k s t c d = ((d ≡ c) × (t.files ≡ s.files))
      ⊎ (EntryUnfound l k s t × AsksOnce store.asked store.queried (id_of l k) c d)

  -- so it is, or nobody asked these stores, and a further worker's chunk was added to the cache, or not
  abbrev pub TurnAsks : ℕ → Shelf → Shelf → Chained S → Chained S → Type 0
  TurnAsks k s t c d = ((d ≡ c) × IsAside l k s t)
      ⊎ (EntryUnfound l k s t × AsksOnce store.asked store.queried (id_of l k) c d)

  -- the cache didn't give the chunk of entry k, or failed, and the stores, asked once, refused it for this reason
  pub record RefusesEntry (k : ℕ) (id : ChunkId) (r : Refused) (s t : Shelf) (c d : Chained S) : Type 0 where
    pub id_is : id.0 ≡ id_of l k
    pub unfound : EntryUnfound l k s t
    pub kept : t.files ≡ s.files
    pub asked : AsksOnce store.asked store.queried (id_of l k) c d
    pub refused : Refuses store.said store.faults store.may_lack_memory (entry_want l k id) c.stores d.stores r
    pub lacks : (maps : List (Map (List ℕ))) → map store.holds c.stores ≡ map Some maps
        → LacksAll (entry_want l k id) maps r

  -- the cache didn't give it, or failed, and a store, asked once, gave it, but it wasn't put into the cache
  pub record LosesEntry (k : ℕ) (s t : Shelf) (c d : Chained S) : Type 0 where
    pub id : ChunkId
    pub id_is : id.0 ≡ id_of l k
    pub unfound : EntryUnfound l k s t
    pub bytes : List ℕ
    pub wanted : IsWanted (entry_want l k id) bytes
    pub asked : AsksOnce store.asked store.queried (id_of l k) c d
    pub given : GivenBy store.said store.faults store.may_lack_memory (entry_want l k id) bytes c.stores d.stores
    pub gives : (maps : List (Map (List ℕ))) → map store.holds c.stores ≡ map Some maps
        → SomeGives (kind_of l) (id_of l k) (size_of l k) maps

  -- the cache didn't give it, or failed, and a store of a further worker, whose stores hold the same, gave it, but it
  -- wasn't put into the cache
  pub record LosesAhead (k : ℕ) (s t : Shelf) (c d : Chained S) : Type 0 where
    pub unfound : EntryUnfound l k s t
    pub unasked : d ≡ c
    pub gives : (maps : List (Map (List ℕ))) → map store.holds c.stores ≡ map Some maps
        → SomeGives (kind_of l) (id_of l k) (size_of l k) maps

  -- the call for the chunk of entry k was refused so
  abbrev pub EntryFails : ℕ → Shelf → Shelf → Chained S → Chained S → FillFault → Type 0
  EntryFails k s t c d (faults.Missing e id) = (e ≡ k) × RefusesEntry k id refused.Missing s t c d
  EntryFails k s t c d (faults.Damaged e id m x) = (e ≡ k) × RefusesEntry k id (refused.Damaged m x) s t c d
  EntryFails k s t c d (faults.StoreFault m) = (id : ChunkId) × RefusesEntry k id (refused.StoreFault m) s t c d
  EntryFails k s t c d faults.CacheFault = (LosesEntry k s t c d ⊎ LosesAhead k s t c d) × Rose s.faults t.faults
  EntryFails k s t c d faults.Memory = (d ≡ c)
      ⊎ (((id : ChunkId) × RefusesEntry k id refused.Memory s t c d) ⊎ LosesEntry k s t c d)

  -- ---- and how filling ends

  -- the first k entries were filled: each is in the cache, into which only chunks of theirs were put that some store
  -- holds, and the stores were asked for these alone
  pub record FillsFirst (k : ℕ) (s0 s : Shelf) (c0 c : Chained S) : Type 0 where
    pub holds : HoldsTo l k s
    pub stocks : Stocks (λ q b. IsListedId l k q × MayFillCache store.members l c0.stores q b) s0 s
    pub asks : AsksEntries store.asked store.queried l k c0 c
    pub stores : KeepsStores store (IsGetBefore l k) c0.stores c.stores

  -- filling ended early at one of the entries. Those before it were filled, which led to this cache and these stores,
  -- and the refusal is that of the last call, which was for this entry, from there on. It added nothing to the cache,
  -- which holds the chunks before it, and no others were added
  pub record FillStops (fault : FillFault) (s0 s1 : Shelf) (c0 c1 : Chained S) : Type 0 where
    pub entry : ℕ
    pub listed : entry < count_of l
    pub shelf : Shelf
    pub chain : Chained S
    pub before : FillsFirst entry s0 shelf c0 chain
    pub fails : EntryFails entry shelf s1 chain c1 fault
    pub kept : Stocks (λ q b. ⊥) shelf s1
    pub asks : TurnAsks entry shelf s1 chain c1
    pub stores : KeepsStores store (λ a. a ≡ Get (id_of l entry)) chain.stores c1.stores
    pub holds : HoldsTo l entry s1
    pub stocks : Stocks (λ q b. IsListedId l entry q) s0 s1

  -- the stores of a further worker, asked for the chunk of entry k last, refused it for this reason
  pub record RefusesAhead (k : ℕ) (id : ChunkId) (r : Refused) (c d : Chained S) : Type 0 where
    pub id_is : id.0 ≡ id_of l k
    pub chain : Chained S
    pub before : KeepsStores store (IsListedGet l) c.stores chain.stores
    pub asked : AsksOnce store.asked store.queried (id_of l k) chain d
    pub refused : Refuses store.said store.faults store.may_lack_memory (entry_want l k id) chain.stores d.stores r
    pub lacks : (maps : List (Map (List ℕ))) → map store.holds c.stores ≡ map Some maps
        → LacksAll (entry_want l k id) maps r

  -- and this is the fault
  abbrev pub RefusedAhead : ℕ → FillFault → Chained S → Chained S → Type 0
  RefusedAhead k fault c d = (id : ChunkId) × (r : Refused) × (fault ≡ fill_fault_of k id r)
      × RefusesAhead k id r c d

  -- filling ended early at an entry whose chunk the stores of this worker, which is a further one, refused. Those
  -- before it were filled, which led to this cache and these stores. The cache didn't give the chunk, or failed
  pub record StopsAhead (fault : FillFault) (worker : ℕ) (s0 s1 : Shelf) (c0 c1 : Chained S) (f0 f1 : List (Chained S))
      : Type 0 where
    pub entry : ℕ
    pub listed : entry < count_of l
    pub shelf : Shelf
    pub before : FillsFirst entry s0 shelf c0 c1
    pub unfound : EntryUnfound l entry shelf s1
    pub kept : s1.files ≡ shelf.files
    pub holds : HoldsTo l entry s1
    pub stocks : Stocks (λ q b. IsListedId l entry q) s0 s1
    pub further : ℕ
    pub number : worker ≡ further + 1
    pub inside : further < length f1
    pub refused : (d : Chained S) → RefusedAhead entry fault (slice_index_or f0 further d) (slice_index_or f1 further d)

  -- all entries were filled; or there was no memory to begin, and nothing was done; or filling ended early at one,
  -- which the stores of this worker refused, where some did
  abbrev pub FillEnds : Shelf → Shelf → Chained S → Chained S → List (Chained S) → List (Chained S) → ℕ
      → Result Unit FillFault → Type 0
  FillEnds s0 s1 c0 c1 f0 f1 worker (Ok u) = (worker ≡ 0) × FillsFirst (count_of l) s0 s1 c0 c1
  FillEnds s0 s1 c0 c1 f0 f1 worker (Err fault) =
      ((worker ≡ 0) × (((fault ≡ faults.Memory) × (s1 ≡ s0) × (c1 ≡ c0)) ⊎ FillStops fault s0 s1 c0 c1))
      ⊎ StopsAhead fault worker s0 s1 c0 c1 f0 f1

-- ---- what further workers do

-- their stores weren't asked for what is held under some id, be it right or not
abbrev pub SparesHeld : {S : Type 0} → (S → List ℕ → ℕ) → Option (Map (List ℕ)) → Chained S → Chained S → Type 0
SparesHeld asked held c d = IfSome held (λ m.
    AllZip (λ x y. (q : List ℕ) → IsSome (m q) → asked y q ≡ asked x q) c.stores d.stores)

-- no store of a further worker has failed
abbrev pub AreQuiet : {S : Type 0} → (S → ℕ) → List (Chained S) → List (Chained S) → Type 0
AreQuiet counted f0 f1 = AllZip (λ c d. EachQuiet (map counted c.stores) (map counted d.stores)) f0 f1

-- a further worker's stores were asked for each id at most once for each entry that lists it, and for listed chunks
-- alone
pub record FetchesAhead {S : Type 0} (store : StoreWords S) (l : Listing) (c d : Chained S) : Type 0 where
  pub asks : AsksEntries store.asked store.queried l (count_of l) c d
  pub stores : KeepsStores store (IsListedGet l) c.stores d.stores
