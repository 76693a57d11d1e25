-- What is added to a cache that several workers ask and fill, and what is found in it meanwhile.
use Rattle.std.specs.Prelude.{◌≡◌, ℕ, ◌⊎◌, List, [], Option, Some, IfErr, IfSome, Result}
use Rattle.cache_store.specs.Shelves.{AddsWanted, Finds, Shelf, Stocks}
use Rattle.cache_store.specs.declared.shelf.CacheMiss.{CacheMiss}
use Rattle.cache_store.specs.declared.shelf.CacheMiss.TheVariants as miss
use Rattle.chunk_store.specs.Folders.{chunks}
use Rattle.chunk_store.specs.Gets.{GetGives}
use Rattle.chunk_store.specs.declared.id.DigestKind.{DigestKind}
use Rattle.chunk_store.specs.declared.store.GetFault.{GetFault}
use Rattle.dsy_base.specs.Maps.{Map}
use Rattle.store_chain.specs.Giving.{Gives}
use Rattle.store_chain.specs.declared.query.Query.{Query}

-- a shelf as it was when its folder held these files and no call on it had failed
abbrev pub begun_with : Map (List ℕ) → Shelf → Shelf
begun_with first s = record { files = Some first; place = s.place; faults = 0; kind = s.kind; others = s.others }

-- the folder of a shelf held these files at first, and since then only such chunks were added
abbrev pub StocksOpening : (List ℕ → List ℕ → Type 0) → Map (List ℕ) → Shelf → Type 0
StocksOpening Takes first s = Stocks Takes (begun_with first s) s

-- the same, where the type of the folder names those files
abbrev pub StocksSince : (List ℕ → List ℕ → Type 0) → Option (Map (List ℕ)) → Shelf → Type 0
StocksSince Takes opening s = IfSome opening (λ first. StocksOpening Takes first s)

-- under the id such a shelf holds what it held at first, or what was added
abbrev pub StandsSince : (List ℕ → List ℕ → Type 0) → List ℕ → Map (List ℕ) → Map (List ℕ) → Type 0
StandsSince Takes id first now = (now id ≡ first id) ⊎ ((b : List ℕ) × (now id ≡ Some b) × Takes id b)

-- what is read of the file of this id on a shelf that held these chunks at first, and to which only such were added
abbrev pub ReadsSince : (List ℕ → List ℕ → Type 0) → List ℕ → Map (List ℕ) → Result ℕ GetFault → List ℕ → Type 0
ReadsSince Takes id first r out = (now : Map (List ℕ)) × StandsSince Takes id first now × GetGives (now id) r out

-- the same, where the type of the folder names the files that it held at first
abbrev pub ReadsStocked : (List ℕ → List ℕ → Type 0) → Option (Map (List ℕ)) → List ℕ → Result ℕ GetFault → List ℕ
    → Type 0
ReadsStocked Takes opening id r out = IfSome opening (λ first. ReadsSince Takes id (chunks first) r out)

-- what is found on a shelf that held these chunks at first, and to which only such were added: it holds for what stands
-- there now, which under the wanted id is what stood there at first or was added
pub record FindsSince (Takes : List ℕ → List ℕ → Type 0) (w : Query) (first : Map (List ℕ)) (r : Result ℕ CacheMiss)
    (out : List ℕ) : Type 0 where
  pub now : Map (List ℕ)
  pub stands : StandsSince Takes w.id.0 first now
  pub finds : Finds w now r out

-- the shelf couldn't be looked at: the call failed, or there was no memory
abbrev pub IsUnlooked : CacheMiss → Type 0
IsUnlooked m = (m ≡ miss.Failed) ⊎ (m ≡ miss.Memory)

-- what is found where the type of the folder names the files that it held at first
abbrev pub FindsStocked : (List ℕ → List ℕ → Type 0) → Option (Map (List ℕ)) → Query → Result ℕ CacheMiss → List ℕ
    → Type 0
FindsStocked Takes opening w r out = IfSome opening (λ first. FindsSince Takes w (chunks first) r out)

-- a wanted chunk that the folder held at first is refused only if the shelf couldn't be looked at, unless another one
-- may be added in its place
abbrev pub KeepsGiving : (List ℕ → List ℕ → Type 0) → Option (Map (List ℕ)) → Query → Result ℕ CacheMiss → Type 0
KeepsGiving Takes opening w r = IfErr r (λ m. IfSome opening (λ first.
    Gives w (chunks first) → AddsWanted Takes w → IsUnlooked m))

-- a shared shelf of this kind that held these files at first, and whose own calls have failed so often
abbrev pub shared_shelf : DigestKind → Option (Map (List ℕ)) → Option (List (List ℕ × ℕ))
    → Option (List (Map (List ℕ))) → ℕ → Shelf
shared_shelf kind opening pairs stores faults = record {
  files = opening;
  place = [];
  faults = faults;
  kind = kind;
  others = Some (record { kind = kind; pairs = pairs; stores = stores });
}

-- what contracts see of a cache behind a lock: the kind of its shelf
pub record LockedKind : Type 0 where
  pub kind : DigestKind

-- what contracts see of a worker's door: how often a call through it has failed
pub record Doorway : Type 0 where
  pub faults : ℕ
