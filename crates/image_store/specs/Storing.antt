-- What storing the entries of an index with a view has come to. l lists the chunks.
use Rattle.std.specs.Prelude.{◌≡◌, ℕ, ◌<◌, ◌≤◌, All, IfErr, IfSome, List, OnOk, Option, Result, length, map}
use Rattle.buzhash_cut.specs.Image.{CountsViews}
use Rattle.caibx_codec.specs.Listing.{Listing, count_of, image_length, size_of}
use Rattle.chunk_store.specs.Causes.{CountsCause}
use Rattle.chunk_store.specs.declared.store.Store.{Ghosts as StoreWords}
use Rattle.dsy_base.specs.declared.view.View.{Ghosts as ViewWords}
use Rattle.image_store.specs.PutChunks.{HoldsAll, PutsEnd, SaysAll}
use Rattle.image_store.specs.Putting.{PuttingEnds, HasPut, HasTouched}
use Rattle.image_store.specs.declared.put_chunks.MakeFault.{MakeFault}
use Rattle.image_store.specs.declared.put_chunks.MakeFault.TheVariants as faults
use Rattle.image_store.specs.declared.storing.Rooms.{Rooms}
use Rattle.image_store.specs.declared.storing.StoreProgress.{StoreProgress}
use Rattle.image_store.specs.declared.storing.Storing.{Storing}

-- room for the slice of each entry, and for as many bytes of the store
pub record HasRoomFor (l : Listing) (rooms : Rooms) : Type 0 where
  pub chunk : (i : ℕ) → i < count_of l → size_of l i ≤ length rooms.chunk.items
  pub room : (i : ℕ) → i < count_of l → size_of l i ≤ length rooms.room.items

-- the storing that these are the parts of
abbrev pub storing_of : {V S : Type 0} → V → S → StoreProgress S → Rooms → Storing V S
storing_of image store progress rooms = record { image = image; store = store; progress = progress; rooms = rooms }

module _ {V S : Type 0} (view : ViewWords V) (store : StoreWords S) (l : Listing) where
  -- the entries before `at` are stored, and it can go on
  pub record IsStoring (w : Storing V S) : Type 0 where
    pub size : image_length l ≡ (view.held w.image).size
    pub at : w.progress.at ≤ count_of l
    pub room : HasRoomFor l w.rooms
    pub put : HasPut store l (view.held w.image).bytes w.progress.at w.progress.first.value w.store w.progress.seen

  -- it went on, and ended with this result
  pub record GoesOn (old new : Storing V S) (result : Result Unit MakeFault) : Type 0 where
    pub next : OnOk result (IsStoring new)
    pub first : new.progress.first.value ≡ old.progress.first.value
    pub ends : PuttingEnds view store l new.progress.first.value old.image new.image new.store result

-- how storing all entries of an image of these bytes ended
pub record HasStored {S : Type 0} (store : StoreWords S) (l : Listing) (told : Option (List ℕ)) (first now : S)
    (result : Result Unit MakeFault) : Type 0 where
  pub holds : OnOk result (IfSome (store.holds now) (λ m. HoldsAll l (count_of l) m))
  pub says : OnOk result (SaysAll l (count_of l) (store.said now))
  pub touched : HasTouched store l told (count_of l) first now
  pub err : IfErr result (PutsEnd l told)
  pub faults : CountsCause faults.StoreFault (store.faults first) (store.faults now) result

-- it did with these views of the image, which hold what they held
pub record IsStoredBy {V S : Type 0} (view : ViewWords V) (store : StoreWords S) (l : Listing) (old new : List V)
    (first now : S) (result : Result Unit MakeFault) : Type 0 where
  pub stored : All (λ v. HasStored store l (view.held v).bytes first now result) old
  pub once : (told : Option (List ℕ)) × HasStored store l told first now result
  pub kept : map view.held new ≡ map view.held old
  pub image_faults : CountsViews faults.ImageFault faults.Memory (map view.faults old) (map view.faults new) result
