-- How a chunk is got through a shelf: from it, or else from a chain of stores, and then added to it.
use Rattle.std.specs.Prelude.{◌≡◌, ℕ, List, map, take, true, false, Option, None, Some, IfSome, IfOk, IfErr, IsTrue}
use Rattle.std.specs.Prelude.{Bool, Result, Ok, Err, slice_index}
use Rattle.cache_store.specs.Shelves.{GivesStill, KeepsShelf, MayHold, Others, Shelf, Shelved, held_on, shelf_of}
use Rattle.cache_store.specs.declared.cached.Got.{Got}
use Rattle.cache_store.specs.declared.cached.Kept.{Kept}
use Rattle.cache_store.specs.declared.cached.Kept.TheVariants as kept
use Rattle.chunk_store.specs.Said.{Said}
use Rattle.dir_store.specs.Puts.{LeavesTemporary, PutsAtPath}
use Rattle.dsy_base.specs.Counts.{Rose}
use Rattle.dsy_base.specs.Maps.{Map}
use Rattle.dsy_base.specs.declared.fault.IoFault.{IoFault}
use Rattle.dsy_base.specs.declared.fault.IoFault.TheVariants as io
use Rattle.store_chain.specs.Chains.{AsksOnce, Chained}
use Rattle.store_chain.specs.Faults.{EachQuiet}
use Rattle.store_chain.specs.Giving.{LacksAll, LacksTogether, Obtains, SomeHolds}
use Rattle.store_chain.specs.Refusals.{GivenBy, Refuses}
use Rattle.store_chain.specs.declared.refused.Refused.{Refused}
use Rattle.store_chain.specs.declared.refused.Refused.TheVariants as refused
use Rattle.store_chain.specs.declared.query.Query.{Query}

-- a shelf and a chain
pub record Behind (F S : Type 0) : Type 0 where
  pub shelf : Shelved F
  pub chain : Chained S

-- the size that was answered
abbrev pub size_got : Result Got Refused → Result ℕ Refused
size_got (Ok got) = Ok got.size
size_got (Err r) = Err r

-- a shelf once it was asked and answered for itself: the chunk, or want of memory
abbrev pub ShelfAnswers : Query → Shelf → Result Got Refused → List ℕ → Type 0
ShelfAnswers w old (Ok got) out = (got.upstream ≡ false) × (got.kept ≡ kept.Yes)
    × IfSome (held_on old) (λ m. MayHold old.others m w.id.0 (take got.size out))
ShelfAnswers w old (Err r) out = r ≡ refused.Memory

-- the shelf doesn't give the chunk, or failed
abbrev pub Unfound : Query → Shelf → Shelf → Type 0
Unfound w old new = IfSome (held_on old) (λ m. GivesStill old.others w m → Rose old.faults new.faults)

-- what is told of a shelf to which the bytes were added, or why they weren't. A shared one tells what it held at first
abbrev pub AddedBeside : Option Others → List ℕ → List ℕ → Kept → Shelf → Shelf → Type 0
AddedBeside None id b kept.Yes old new = PutsAtPath id b old.files new.files
AddedBeside None id b kept.Failed old new = LeavesTemporary id old.files new.files × Rose old.faults new.faults
AddedBeside None id b kept.Memory old new = LeavesTemporary id old.files new.files
AddedBeside (Some o) id b k old new = new.files ≡ old.files

-- the bytes were added to the shelf, or why not
abbrev pub AddedTo : List ℕ → List ℕ → Kept → Shelf → Shelf → Type 0
AddedTo id b k old new = AddedBeside old.others id b k old new

-- what an addition has answered
abbrev pub kept_by : Result Unit IoFault → Kept
kept_by (Ok u) = kept.Yes
kept_by (Err io.Failed) = kept.Failed
kept_by (Err io.Memory) = kept.Memory

-- what the stores gave was added to the shelf; where they gave nothing, its files are as before
abbrev pub ShelfAdds : Query → Shelf → Shelf → Result Got Refused → List ℕ → Type 0
ShelfAdds w old new (Ok got) out = (got.upstream ≡ true) × AddedTo w.id.0 (take got.size out) got.kept old new
ShelfAdds w old new (Err r) out = new.files ≡ old.files

-- the chunk came from the cache, and the stores weren't asked
pub record CacheGave {S : Type 0} (w : Query) (old new : Shelf) (before after : Chained S) (r : Result Got Refused)
    (out : List ℕ) : Type 0 where
  pub chain : after ≡ before
  pub shelf : KeepsShelf old new
  pub answer : ShelfAnswers w old r out

-- the cache didn't give it, and the stores were asked once: what they gave was added to the cache
pub record StoresGave {S : Type 0} (holds : S → Option (Map (List ℕ))) (members : S → Option (List (Map (List ℕ))))
    (said : S → Said) (faults : S → ℕ) (lacks_memory : Bool) (asked queried : S → List ℕ → ℕ) (w : Query)
    (old new : Shelf) (before after : Chained S) (r : Result Got Refused) (out : List ℕ) : Type 0 where
  pub unfound : Unfound w old new
  pub added : ShelfAdds w old new r out
  pub asks : AsksOnce asked queried w.id.0 before after
  pub found : IfOk r (λ got. GivenBy said faults lacks_memory w (take got.size out) before.stores after.stores)
  pub had : IfOk r (λ got. SomeHolds members before.stores w.id.0 (take got.size out))
  pub lacks : IfErr r (LacksTogether w (map members before.stores))
  pub absent : IfErr r (Refuses said faults lacks_memory w before.stores after.stores)
  pub first : (maps : List (Map (List ℕ))) → map holds before.stores ≡ map Some maps → IfErr r (LacksAll w maps)
  pub exactly : (maps : List (Map (List ℕ))) → map holds before.stores ≡ map Some maps
      → EachQuiet (map faults before.stores) (map faults after.stores) → Obtains lacks_memory w maps (size_got r) out
  pub only : r ≡ Err refused.Memory → IsTrue lacks_memory
  pub cause : (s : ℕ) → r ≡ Err (refused.StoreFault s)
      → Rose (slice_index (map faults before.stores) s) (slice_index (map faults after.stores) s)

-- the bytes were added to a cache by one call, with this outcome, after one look. What a look and an addition leave is
-- what the type of the cache says
pub record AddedOnce {C : Type 0} (Looks : C → C → Type 0) (Adds : List ℕ → List ℕ → Kept → C → C → Type 0)
    (id b : List ℕ) (k : Kept) (old new : C) : Type 0 where
  pub between : C
  pub looked : Looks old between
  pub adds : Adds id b k between new

module _ {F S : Type 0} (files : F → Option (Map (List ℕ))) (place : F → List ℕ) (faults_of : F → ℕ) where
  -- the same of a shelf of one's own: the chunk came from it
  abbrev pub FromShelf : Query → Behind F S → Behind F S → Result Got Refused → List ℕ → Type 0
  FromShelf w old new r out = CacheGave w (shelf_of files place faults_of old.shelf)
      (shelf_of files place faults_of new.shelf) old.chain new.chain r out

  -- or from the stores
  abbrev pub FromStores : (S → Option (Map (List ℕ))) → (S → Option (List (Map (List ℕ)))) → (S → Said) → (S → ℕ)
      → Bool → (S → List ℕ → ℕ) → (S → List ℕ → ℕ) → Query → Behind F S → Behind F S → Result Got Refused → List ℕ
      → Type 0
  FromStores holds members said faults lacks_memory asked queried w old new r out = StoresGave holds members said
      faults lacks_memory asked queried w (shelf_of files place faults_of old.shelf)
      (shelf_of files place faults_of new.shelf) old.chain new.chain r out
