-- A cache of any type among the sources.
use Rattle.std.specs.Prelude.{◌≡◌, ℕ, List, Option, None, Some, IfSome}
use Rattle.std.specs.Option.{option_map}
use Rattle.cache_store.specs.Shelves.{MayAdd, Shelf}
use Rattle.cache_store.specs.Through.{AddedOnce}
use Rattle.cache_store.specs.declared.cache.Cache.{Ghosts as CacheWords}
use Rattle.cache_store.specs.declared.cached.Kept.{Kept}
use Rattle.caibx_codec.specs.Listing.{Listing, kind_of}
use Rattle.chunk_sources.specs.Caches.{IfShared, TakesListed}
use Rattle.chunk_store.specs.declared.store.Store.{Ghosts as StoreWords}

-- what is seen of it
abbrev pub seen_in : {C : Type 0} → CacheWords C → Option C → Option Shelf
seen_in words cache = option_map words.shelf cache

-- to a cache of these words that others fill too may be added what is got from the stores for the entries of an index.
-- One that nobody else fills names nothing in its type
pub record Suits {C S : Type 0} (words : CacheWords C) (store : StoreWords S) (l : Listing) (stores : List S)
    (cache : Option Shelf) : Type 0 where
  pub takes : IfShared cache ((q b : List ℕ) → TakesListed store l stores q b
      → MayAdd (kind_of l) words.pairs words.stores q b)
  pub own : IfSome cache (λ s. s.others ≡ None → (words.pairs ≡ None) × (words.stores ≡ None))

-- where there is a cache, the bytes were added to it under the id, by one call after one look
abbrev pub IsAddedOnce : {C : Type 0} → CacheWords C → List ℕ → List ℕ → Option C → Option C → Type 0
IsAddedOnce words id b (Some old) (Some new) = (k : Kept) × AddedOnce words.looks words.adds id b k old new
IsAddedOnce words id b (Some old) None = ⊥
IsAddedOnce words id b None new = Unit {0}
