-- How far the filling of a cache has come. l lists the chunks; s0 and c0 are the shelf and the stores as they were
-- first, s and c, or t and d, as they are.
use Rattle.std.specs.Prelude.{◌≡◌, ◌⊎◌, ℕ, suc, ◌<◌, ◌≤◌, List, [], ◌∷◌, length, slice_index_or, Option, None, Some}
use Rattle.std.specs.Prelude.{IfErr, IfSome, OnOk, Result, Ok, Err}
use Rattle.chunk_dealing.specs.Dealing.{AsksOwn, owner_of}
use Rattle.cache_fill.specs.Filling.{AreQuiet, AsksEntries, EntryFails, EntryUnfound, FillEnds, FillUnfailed, FillsBy}
use Rattle.cache_fill.specs.Filling.{GivesEntry, HoldsTo, IsGetBefore, IsGivenBy, MayFillCache, SparesStores, filled_to}
use Rattle.cache_fill.specs.declared.entry.Stop.{Stop}
use Rattle.cache_fill.specs.declared.entry.Stop.TheVariants as stop
use Rattle.cache_fill.specs.declared.fill.FillFault.{FillFault}
use Rattle.cache_fill.specs.declared.fill.FillFault.TheVariants as faults
use Rattle.cache_fill.specs.declared.filling.Filling.{Filling}
use Rattle.cache_fill.specs.declared.want_reader.WantReader.{WantReader}
use Rattle.cache_store.specs.Shelves.{Shelf, Stocks, held_on, shelf_of}
use Rattle.cache_store.specs.Through.{Behind}
use Rattle.caibx_codec.specs.Asks.{IsListedGet}
use Rattle.caibx_codec.specs.Listing.{Listing, count_of, kind_of, size_of}
use Rattle.chunk_store.specs.declared.store.Store.{Ghosts as StoreWords}
use Rattle.dsy_base.specs.Counts.{Quiet}
use Rattle.dsy_base.specs.Maps.{Map}
use Rattle.dsy_base.specs.declared.look.Look.{Ghosts as LookWords}
use Rattle.image_store.specs.PutChunks.{IsListedId}
use Rattle.store_chain.specs.Chains.{Chained, KeepsStores}

module _ {S : Type 0} (store : StoreWords S) (l : Listing) where
  -- the stores were spared where the cache gave each listed chunk, and the cache stood as it was
  abbrev pub Spared : Shelf → Shelf → Chained S → Chained S → Type 0
  Spared s0 s c0 c = IfSome (held_on s0) (λ m. ((i : ℕ) → i < count_of l → GivesEntry l i m)
      → Quiet s0.faults s.faults → (c ≡ c0) × (s.files ≡ s0.files))

  -- the first i entries were filled
  pub record Filled (i : ℕ) (s0 s : Shelf) (c0 c : Chained S) : Type 0 where
    pub holds_all : HoldsTo l i s
    pub given : (m : Map (List ℕ)) (maps : List (Map (List ℕ)))
        → FillUnfailed store.holds store.faults l m maps s0 s c0.stores c.stores → (j : ℕ) → j < i
        → IsGivenBy l m maps j
    pub asks : AsksEntries store.asked store.queried l i c0 c
    pub spared : Spared s0 s c0 c
    pub stocks : Stocks (λ q b. IsListedId l i q × MayFillCache store.members l c0.stores q b) s0 s
    pub stores : KeepsStores store (IsGetBefore l i) c0.stores c.stores

  -- why entry i isn't filled: it was refused, or a further worker was to read it, and the cache doesn't give it
  abbrev pub StopsEntry : ℕ → Shelf → Shelf → Chained S → Stop → Type 0
  StopsEntry i s t c (stop.Refused fault) = EntryFails store l i s t c c fault
  StopsEntry i s t c stop.Unread = (t.files ≡ s.files) × EntryUnfound l i s t

  -- the first i entries were filled, and the chunk of entry i wasn't read by a further worker. The cache doesn't give
  -- it
  pub record LeavesEntry (i : ℕ) (s0 t : Shelf) (c0 c : Chained S) : Type 0 where
    pub listed : i < count_of l
    pub shelf : Shelf
    pub filled : Filled i s0 shelf c0 c
    pub stops : StopsEntry i shelf t c stop.Unread
    pub kept : Stocks (λ q b. ⊥) shelf t

  -- what an answer says of the cache and the stores: the first worker's, and the further ones', f0 before and f1 now.
  -- Stores of this worker refused a chunk, where some did
  pub record FillAnswers (s0 s : Shelf) (c0 c : Chained S) (f0 f1 : List (Chained S)) (worker : ℕ)
      (result : Result Unit FillFault) : Type 0 where
    pub holds : HoldsTo l (filled_to l result) s
    pub order : FillEnds store l s0 s c0 c f0 f1 worker result
    pub exactly : (m : Map (List ℕ)) (maps : List (Map (List ℕ)))
        → FillUnfailed store.holds store.faults l m maps s0 s c0.stores c.stores → AreQuiet store.faults f0 f1
        → FillsBy l m maps result
    pub asks : AsksEntries store.asked store.queried l (count_of l) c0 c
    pub spared : SparesStores l s0 s c0 c
    pub stocks : Stocks (MayFillCache store.members l c0.stores) s0 s
    pub stores : KeepsStores store (IsListedGet l) c0.stores c.stores

module _ {F S : Type 0} (look : LookWords F) (store : StoreWords S) where
  -- a shelf with its chain, as contracts see the shelf
  abbrev pub shelf_at : Behind F S → Shelf
  shelf_at b = shelf_of look.files look.place look.faults b.shelf

  -- the entries before `at` were filled, and it can go on. `pairs` and `named` are what the folder's type names
  pub record IsFilling (pairs : Option (List (List ℕ × ℕ))) (named : Option (List (Map (List ℕ)))) (w : Filling F S)
      : Type 0 where
    pub at : w.at ≤ count_of w.index.now
    pub room : (i : ℕ) → i < count_of w.index.now → size_of w.index.now i ≤ length w.chunk.now
    pub kind : w.cached.now.chain.kind ≡ kind_of w.index.now
    pub unnamed : (pairs ≡ None) × (named ≡ None)
    pub filled : Filled store w.index.now w.at (shelf_at w.first.value) (shelf_at w.cached.now) w.first.value.chain
        w.cached.now.chain
    pub dealt : AsksOwn store.asked w.index.now (owner_of w.owners.now) 0 w.at w.first.value.chain w.cached.now.chain

  -- it has stopped so
  abbrev pub HasStopped : Filling F S → Stop → Type 0
  HasStopped w (stop.Refused fault) = FillAnswers store w.index.now (shelf_at w.first.value) (shelf_at w.cached.now)
      w.first.value.chain w.cached.now.chain [] [] 0 (Err fault)
  HasStopped w stop.Unread = LeavesEntry store w.index.now w.at (shelf_at w.first.value) (shelf_at w.cached.now)
      w.first.value.chain w.cached.now.chain

  -- it went on, and ended with this result
  pub record FillsOn (pairs : Option (List (List ℕ × ℕ))) (named : Option (List (Map (List ℕ)))) (old new : Filling F S)
      (result : Result Unit Stop) : Type 0 where
    pub next : OnOk result (IsFilling pairs named new)
    pub ends : IfErr result (HasStopped new)
    pub dealt : AsksOwn store.asked new.index.now (owner_of new.owners.now) 0 (count_of new.index.now)
        new.first.value.chain new.cached.now.chain
    pub cached : new.cached.ghost_name ≡ old.cached.ghost_name
    pub index : new.index.now ≡ old.index.now
    pub owners : new.owners.now ≡ old.owners.now
    pub first : new.first.value ≡ old.first.value

-- ---- readers beside it

module _ {S : Type 0} where
  -- a reader that hasn't asked for anything
  pub record IsHired (l : Listing) (owners : List ℕ) (r : WantReader S) : Type 0 where
    pub index : r.index.now ≡ l
    pub owners_are : r.owners.now ≡ owners
    pub next : r.next ≡ 0
    pub lost : r.lost ≡ None

  -- their numbers rise by one, from m on
  abbrev pub RiseByOne : ℕ → List (WantReader S) → Type 0
  RiseByOne m [] = Unit {0}
  RiseByOne m (r ∷ rs) = (r.number ≡ m) × RiseByOne (suc m) rs

  -- one of them lost this entry
  pub record TellsLost (entry : ℕ) (rs : List (WantReader S)) (worker : ℕ) (fault : FillFault) : Type 0 where
    pub place : ℕ
    pub inside : place < length rs
    pub number : (d : WantReader S) → (slice_index_or rs place d).number ≡ worker
    pub lost : (d : WantReader S) → (slice_index_or rs place d).lost ≡ Some (record { entry = entry; fault = fault })

  -- filling ended so, where the consumer stopped at the entry like this
  abbrev pub EndedSo : ℕ → List (WantReader S) → Result Unit Stop → ℕ → Result Unit FillFault → Type 0
  EndedSo entry rs (Ok u) worker r = (worker ≡ 0) × (r ≡ Ok tt)
  EndedSo entry rs (Err (stop.Refused fault)) worker r = (worker ≡ 0) × (r ≡ Err fault)
  EndedSo entry rs (Err stop.Unread) worker r = ((worker ≡ 0) × (r ≡ Err faults.Memory))
      ⊎ ((fault : FillFault) × (r ≡ Err fault) × TellsLost entry rs worker fault)
