-- What a further worker has asked its stores for, ahead of the entries' turns. l lists the chunks.
use Rattle.std.specs.Prelude.{◌≡◌, ℕ, ◌<◌, ◌≤◌, Bool, false, true, List, slice_index_or, Option, None, IfSome, map}
use Rattle.std.specs.List.{AllZip}
use Rattle.chunk_dealing.specs.Dealing.{AsksOwn, ByNumber, DealsLacking}
use Rattle.cache_fill.specs.Filling.{FetchesAhead}
use Rattle.caibx_codec.specs.Asks.{IsListedGet}
use Rattle.caibx_codec.specs.Listing.{Listing, count_of, id_of}
use Rattle.chunk_store.specs.declared.store.Store.{Ghosts as StoreWords}
use Rattle.dsy_base.specs.Maps.{Map}
use Rattle.store_chain.specs.Chains.{Chained, KeepsStores}
use Rattle.store_chain.specs.Giving.{SomeHolds}

-- some member of the stores holds the bytes under the id of entry i
abbrev pub SomeHoldsEntry : {S : Type 0} → (S → Option (List (Map (List ℕ)))) → Listing → List S → ℕ → List ℕ → Type 0
SomeHoldsEntry members l stores i b = SomeHolds members stores (id_of l i) b

-- ---- which entries are worth it: a list with a mark for each

-- some marked entry has this id
abbrev pub IsMarked : Listing → List Bool → List ℕ → Type 0
IsMarked l marks q = (i : ℕ) × (i < count_of l) × (slice_index_or marks i false ≡ true) × (id_of l i ≡ q)

-- nothing is held under the ids of marked entries, where it is told
abbrev pub MarksLacking : Listing → Option (Map (List ℕ)) → List Bool → Type 0
MarksLacking l held marks = IfSome held (λ m. (q : List ℕ) → IsMarked l marks q → m q ≡ None)

-- ---- how far a worker has come

-- the stores of worker k were asked for chunks of its entries before `next` alone, once for each at most
pub record Fetches {S : Type 0} (store : StoreWords S) (l : Listing) (owner : ℕ → ℕ) (k next : ℕ) (c d : Chained S)
    : Type 0 where
  pub dealt : AsksOwn store.asked l owner k next c d
  pub no_less : AllZip (λ x y. (q : List ℕ) → store.asked x q ≤ store.asked y q) c.stores d.stores
  pub queries : map store.queried d.stores ≡ map store.queried c.stores
  pub no_fewer : c.asks ≤ d.asks
  pub kind : d.kind ≡ c.kind
  pub kept : KeepsStores store (IsListedGet l) c.stores d.stores

-- so it is with all of its entries
pub record FetchesDealt {S : Type 0} (store : StoreWords S) (l : Listing) (owner : ℕ → ℕ) (k : ℕ) (c d : Chained S)
    : Type 0 where
  pub ahead : FetchesAhead store l c d
  pub dealt : AsksOwn store.asked l owner k (count_of l) c d

-- the entries were dealt to the workers, each to one of them: to further workers only such as the cache lacked at first
pub record SharesOut {S : Type 0} (store : StoreWords S) (l : Listing) (held : Option (Map (List ℕ)))
    (c0 c1 : Chained S) (f0 f1 : List (Chained S)) : Type 0 where
  pub owner : ℕ → ℕ
  pub lacking : DealsLacking l held owner
  pub first : AsksOwn store.asked l owner 0 (count_of l) c0 c1
  pub further : ByNumber (FetchesDealt store l owner) 1 f0 f1
