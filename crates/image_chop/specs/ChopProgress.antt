-- What chopping the entries of an index with a view has come to. l lists the chunks, `told` are the image's bytes where
-- they are told.
use Rattle.std.specs.Prelude.{◌≡◌, ℕ, ◌≤◌, IfErr, IfSome, List, OnErr, OnOk, Option, Result, is_some}
use Rattle.caibx_codec.specs.Listing.{Listing, count_of, image_length}
use Rattle.caibx_codec.specs.Right.{IsRight}
use Rattle.chunk_store.specs.Asks.{Sends}
use Rattle.chunk_store.specs.Causes.{CountsCause}
use Rattle.chunk_store.specs.declared.store.Store.{Ghosts as StoreWords}
use Rattle.dsy_base.specs.Counts.{CountsFaults}
use Rattle.dsy_base.specs.declared.view.View.{Ghosts as ViewWords}
use Rattle.image_chop.specs.Chopping.{AreRightTo, AsksListed, ChopStops, IsMismatch, TellsLength, most_seen, seen_to}
use Rattle.image_store.specs.PutChunks.{HoldsAll, KeepsListed, PutsFiles, SaysAll, Stands}
use Rattle.image_store.specs.Storing.{HasRoomFor}
use Rattle.image_chop.specs.declared.chop.ChopFault.{ChopFault}
use Rattle.image_chop.specs.declared.chop.ChopFault.TheVariants as faults
use Rattle.image_chop.specs.declared.chopping.Chopping.{Chopping}

module _ {S : Type 0} (store : StoreWords S) (l : Listing) (told : Option (List ℕ)) where
  -- the store on the way through the entries, since it was `first`: the first k are chopped
  pub record HasChopped (k : ℕ) (first now : S) : Type 0 where
    pub right : AreRightTo l k told
    pub holds : IfSome (store.holds now) (λ m. HoldsAll l k m)
    pub says : SaysAll l k (store.said now)
    pub stands : IfSome told (λ t. IfSome (store.holds first) (λ old. IfSome (store.holds now)
        (λ new. Stands l t k old new)))
    pub files : PutsFiles l told (store.holds first) k (store.folder first) (store.folder now)
    pub asks : AsksListed l k (store.asked first) (store.asked now)
    pub tells : is_some (store.holds now) ≡ is_some (store.holds first)
    pub sends : Sends (KeepsListed l) (store.sent first) (store.sent now)
    pub queries : store.queried now ≡ store.queried first
    pub place : store.place now ≡ store.place first
    pub faults : store.faults first ≤ store.faults now

  -- chopping an image of this size ended with this answer
  pub record ChoppingEnds (size : ℕ) (first now : S) (result : Result Unit ChopFault) : Type 0 where
    pub right : OnOk result (IfSome told (λ t. IsRight t l))
    pub size_is : TellsLength l size result
    pub first_is : IfErr result (IsMismatch l told)
    pub holds : IfSome (store.holds now) (λ m. HoldsAll l (seen_to l result) m)
    pub says : SaysAll l (seen_to l result) (store.said now)
    pub changed : IfSome told (λ t. IfSome (store.holds first) (λ old. IfSome (store.holds now)
        (λ new. Stands l t (most_seen l result) old new)))
    pub files : PutsFiles l told (store.holds first) (most_seen l result) (store.folder first) (store.folder now)
    pub order : OnErr result (ChopStops store l told first now)
    pub tells : is_some (store.holds now) ≡ is_some (store.holds first)
    pub place : store.place now ≡ store.place first
    pub sends : Sends (KeepsListed l) (store.sent first) (store.sent now)
    pub asks : AsksListed l (most_seen l result) (store.asked first) (store.asked now)
    pub queries : store.queried now ≡ store.queried first
    pub faults : CountsCause faults.StoreFault (store.faults first) (store.faults now) result

module _ {V S : Type 0} (view : ViewWords V) (store : StoreWords S) (l : Listing) where
  -- the entries before `at` are chopped, and it can go on
  pub record IsChopping (w : Chopping V S) : Type 0 where
    pub size : image_length l ≡ (view.held w.image).size
    pub at : w.at ≤ count_of l
    pub room : HasRoomFor l w.rooms
    pub chopped : HasChopped store l (view.held w.image).bytes w.at w.first.value w.store

  -- it went on, and ended with this result
  pub record ChopsOn (old new : Chopping V S) (result : Result Unit ChopFault) : Type 0 where
    pub next : OnOk result (IsChopping new)
    pub first : new.first.value ≡ old.first.value
    pub ends : OnErr result (ChoppingEnds store l (view.held old.image).bytes (view.held old.image).size
        new.first.value new.store result)
    pub kept : view.held new.image ≡ view.held old.image
    pub image_faults : CountsFaults faults.ImageFault faults.Memory (view.faults old.image) (view.faults new.image)
        result
