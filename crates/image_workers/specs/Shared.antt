-- The cache of an assembly while several workers ask and fill it, each through a door of its own. Kits count from 0.
use Rattle.std.specs.Prelude.{◌≡◌, ℕ, zero, suc, ◌++◌, List, [], ◌∷◌, Option, None, Some, IfSome}
use Rattle.std.specs.Option.{option_map}
use Rattle.cache_store.specs.Giving.{SomeGives}
use Rattle.cache_store.specs.Shelves.{MayAdd, Shelf}
use Rattle.caibx_codec.specs.Listing.{Listing, count_of, id_of, kind_of, size_of}
use Rattle.chunk_sources.specs.Caches.{TakesListed, given_maps}
use Rattle.chunk_sources.specs.declared.kit.Kit.{Kit}
use Rattle.chunk_store.specs.declared.id.DigestKind.{DigestKind}
use Rattle.chunk_store.specs.declared.store.Store.{Ghosts as StoreWords}
use Rattle.dsy_base.specs.Maps.{Map}
use Rattle.locked_cache.specs.Additions.{shared_shelf}

-- what is seen of a door through which this many calls have failed, where there is a cache. Its type names the kind of
-- digest, the files that it held at first, the chunks that may be added, and the stores of which one has to hold them
abbrev pub door_shelf : {X : Type 0} → DigestKind → Option (Map (List ℕ)) → Option (List (List ℕ × ℕ))
    → Option (List (Map (List ℕ))) → ℕ → Option X → Option Shelf
door_shelf kind opening pairs stores faults cache =
    option_map (λ _. shared_shelf kind opening pairs stores faults) cache

-- a type names the kind of this shelf of one's own, what it holds, the name that its folder was taken under, and how
-- often it has failed
pub record NamesShelf (kind : DigestKind) (first : Option (Map (List ℕ))) (taken : List ℕ) (failed : ℕ) (s : Shelf)
    : Type 0 where
  pub opening : first ≡ s.files
  pub place : taken ≡ s.place
  pub faults : failed ≡ s.faults
  pub kind_is : s.kind ≡ kind
  pub others : s.others ≡ None

-- the ids of the first n entries that the index lists, each with its size
abbrev pub pairs_below : Listing → ℕ → List (List ℕ × ℕ)
pairs_below l zero = []
pairs_below l (suc n) = (id_of l n, size_of l n) ∷ pairs_below l n

-- the ids of all entries
abbrev pub pairs_of : Listing → List (List ℕ × ℕ)
pairs_of l = pairs_below l (count_of l)

-- the stores of all kits, one after another
abbrev pub all_stores : {S V : Type 0} → List (Kit S V) → List S
all_stores [] = []
all_stores (k ∷ ks) = k.chain.stores ++ all_stores ks

-- what these stores give for the entries of an index may be added to a shared cache
abbrev pub MayAddFrom : {S : Type 0} → StoreWords S → Listing → List S → Option Shelf → Type 0
MayAddFrom store l stores cache = IfSome cache (λ s. IfSome s.others
    (λ o. (q b : List ℕ) → TakesListed store l stores q b → MayAdd (kind_of l) o.pairs o.stores q b))

-- what the cache gives, by this kind of digest, one of these maps gave, where they are told
abbrev pub GivesNoMore : DigestKind → Option (List (Map (List ℕ))) → Option Shelf → Type 0
GivesNoMore kind told cache = (maps : List (Map (List ℕ))) → told ≡ Some maps → (now : List (Map (List ℕ)))
    × (given_maps cache ≡ Some now)
    × ((id : List ℕ) (n : ℕ) → SomeGives kind id n now → SomeGives kind id n maps)
