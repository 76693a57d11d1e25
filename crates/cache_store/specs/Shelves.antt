-- What contracts see of a shelf, what is found on it, and how it changes.
use Rattle.std.specs.Prelude.{◌≡◌, ℕ, ◌⊎◌, ◌≤◌, List, length, take, Option, Some, None, IfSome, IsTrue, Result, Ok, Err}
use Rattle.std.specs.Prelude.{is_some}
use Rattle.std.specs.List.{Any}
use Rattle.std.specs.Option.{option_map}
use Rattle.cache_store.specs.declared.shelf.CacheMiss.{CacheMiss}
use Rattle.cache_store.specs.declared.shelf.CacheMiss.TheVariants as miss
use Rattle.chunk_store.specs.Folders.{chunks}
use Rattle.chunk_store.specs.Digests.{digest_of}
use Rattle.chunk_store.specs.declared.id.DigestKind.{DigestKind}
use Rattle.dir_store.specs.Names.{is_stranger}
use Rattle.dsy_base.specs.Maps.{Map}
use Rattle.store_chain.specs.Giving.{Gives, HoldsElse, HoldsNone}
use Rattle.store_chain.specs.Queries.{IsWanted}
use Rattle.store_chain.specs.declared.query.Query.{Query}

-- what contracts see of a shelf: its folder, and the digest that names the chunks
pub record Shelved (F : Type 0) : Type 0 where
  pub folder : F
  pub kind : DigestKind

-- what others may add to a shelf that is shared: chunks named by this kind of digest, of these ids and sizes, which
-- these stores hold, where that is known
pub record Others : Type 0 where
  pub kind : DigestKind
  pub pairs : Option (List (List ℕ × ℕ))
  pub stores : Option (List (Map (List ℕ)))

-- the files of its folder, where they are told, the name that the folder was taken under, the count of its faults, the
-- digest that names the chunks, and what others may add meanwhile: nothing where the shelf isn't shared. The files of a
-- shared shelf are those that it had before anybody added any
pub record Shelf : Type 0 where
  pub files : Option (Map (List ℕ))
  pub place : List ℕ
  pub faults : ℕ
  pub kind : DigestKind
  pub others : Option Others

-- the shelf of a folder whose files, name and count these functions tell
abbrev pub shelf_of : {F : Type 0} → (F → Option (Map (List ℕ))) → (F → List ℕ) → (F → ℕ) → Shelved F → Shelf
shelf_of files place faults s = record {
  files = files s.folder;
  place = place s.folder;
  faults = faults s.folder;
  kind = s.kind;
  others = None;
}

-- the chunks that it holds
abbrev pub held_on : Shelf → Option (Map (List ℕ))
held_on s = option_map chunks s.files

-- the id and the size are one of these pairs
abbrev pub IsPair : List ℕ → ℕ → List (List ℕ × ℕ) → Type 0
IsPair id size pairs = Any (λ (p : List ℕ × ℕ). (p.0 ≡ id) × (p.1 ≡ size)) pairs

-- the bytes may be added under the id: it is their digest of this kind, it is listed with their size, and one of the
-- stores holds them under it. The last two only where the type of the folder names pairs and stores
pub record MayAdd (kind : DigestKind) (pairs : Option (List (List ℕ × ℕ))) (stores : Option (List (Map (List ℕ))))
    (id b : List ℕ) : Type 0 where
  pub named : digest_of kind b ≡ id
  pub listed : IfSome pairs (IsPair id (length b))
  pub held : IfSome stores (Any (λ m. m id ≡ Some b))

-- all that may be added under the wanted id is what is wanted
abbrev pub AddsWanted : (List ℕ → List ℕ → Type 0) → Query → Type 0
AddsWanted Takes w = (b : List ℕ) → Takes w.id.0 b → IsWanted w b

-- a shelf that held these chunks at first may hold the bytes under the id: it held them, or others have added them
abbrev pub MayHold : Option Others → Map (List ℕ) → List ℕ → List ℕ → Type 0
MayHold None m id b = m id ≡ Some b
MayHold (Some o) m id b = (m id ≡ Some b) ⊎ MayAdd o.kind o.pairs o.stores id b

-- a shelf that held these chunks at first gives what is wanted, whatever others add
abbrev pub GivesStill : Option Others → Query → Map (List ℕ) → Type 0
GivesStill None w m = Gives w m
GivesStill (Some o) w m = Gives w m × AddsWanted (MayAdd o.kind o.pairs o.stores) w

-- what a look for a chunk answers, where the shelf holds these, and the front of the buffer afterwards
abbrev pub Finds : Query → Map (List ℕ) → Result ℕ CacheMiss → List ℕ → Type 0
Finds w m (Ok n) out = m w.id.0 ≡ Some (take n out)
Finds w m (Err miss.Absent) out = HoldsNone w m
Finds w m (Err (miss.Wrong x)) out = HoldsElse w x m
Finds w m (Err miss.Failed) out = Unit {0}
Finds w m (Err miss.Memory) out = Unit {0}

-- a shelf that was only looked at
pub record KeepsShelf (old new : Shelf) : Type 0 where
  pub files : new.files ≡ old.files
  pub place : new.place ≡ old.place
  pub kind : new.kind ≡ old.kind
  pub never_falls : old.faults ≤ new.faults
  pub others : new.others ≡ old.others

-- chunks were added to a shelf: under each id it holds what it held, or bytes that may stand there by `Takes`. Each
-- file that is neither a chunk's nor a temporary one stands as before
pub record Stocks (Takes : List ℕ → List ℕ → Type 0) (old new : Shelf) : Type 0 where
  pub told : is_some new.files ≡ is_some old.files
  pub chunks : IfSome old.files (λ m. IfSome new.files (λ n. (q : List ℕ) →
      (chunks n q ≡ chunks m q) ⊎ ((b : List ℕ) × (chunks n q ≡ Some b) × Takes q b)))
  pub strangers : IfSome old.files (λ m. IfSome new.files (λ n.
      (q : List ℕ) → IsTrue (is_stranger q) → n q ≡ m q))
  pub place : new.place ≡ old.place
  pub kind : new.kind ≡ old.kind
  pub never_falls : old.faults ≤ new.faults
  pub others : new.others ≡ old.others
