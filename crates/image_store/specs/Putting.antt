-- A store on the way through the entries of an index, since it was `first`. l lists the chunks, `told` are the image's
-- bytes where they are told.
use Rattle.std.specs.Prelude.{◌≡◌, ℕ, ◌≤◌, Bool, true, false, List, Option, IfSome, is_some, Result, IfErr, OnOk}
use Rattle.std.specs.BTreeSet.{BTreeSet, contains}
use Rattle.std.specs.Cmp.Lexicographic.{slice_cmp}
use Rattle.std.specs.Ordering.{nat_cmp}
use Rattle.caibx_codec.specs.Listing.{Listing, count_of}
use Rattle.chunk_store.specs.Asks.{Sends}
use Rattle.chunk_store.specs.Causes.{CountsCause}
use Rattle.chunk_store.specs.declared.store.Store.{Ghosts as StoreWords}
use Rattle.dsy_base.specs.Counts.{CountsFaults}
use Rattle.dsy_base.specs.Maps.{Map}
use Rattle.dsy_base.specs.declared.view.View.{Ghosts as ViewWords}
use Rattle.image_store.specs.PutChunks.{KeepsListed, AsksEach, HoldsAll, IsListedId, PutsEnd, PutsFiles, SaysAll}
use Rattle.image_store.specs.PutChunks.{Stands}
use Rattle.image_store.specs.declared.put_chunks.MakeFault.{MakeFault}
use Rattle.image_store.specs.declared.put_chunks.MakeFault.TheVariants as faults

-- whether the id is in the set
abbrev pub is_seen : BTreeSet (List ℕ) → List ℕ → Bool
is_seen seen q = contains (slice_cmp nat_cmp) seen q

-- each id in the set is that of one of the first k entries
abbrev pub AreSeen : Listing → ℕ → BTreeSet (List ℕ) → Type 0
AreSeen l k seen = (q : List ℕ) → is_seen seen q ≡ true → IsListedId l k q

-- under the id the same is held now as at first, where both are told
abbrev pub HoldsStill : List ℕ → Option (Map (List ℕ)) → Option (Map (List ℕ)) → Type 0
HoldsStill q first now = IfSome first (λ m. IfSome now (λ n. n q ≡ m q))

module _ {S : Type 0} (store : StoreWords S) (l : Listing) (told : Option (List ℕ)) where
  -- at most the first k entries are stored
  pub record HasTouched (k : ℕ) (first now : S) : Type 0 where
    pub stands : IfSome told (λ t. IfSome (store.holds first) (λ old. IfSome (store.holds now)
        (λ new. Stands l t k old new)))
    pub files : PutsFiles l told (store.holds first) k (store.folder first) (store.folder now)
    pub tells : is_some (store.holds now) ≡ is_some (store.holds first)
    pub place : store.place now ≡ store.place first
    pub asks : AsksEach l k (store.asked first) (store.asked now)
    pub queries : store.queried now ≡ store.queried first
    pub sends : Sends (KeepsListed l) (store.sent first) (store.sent now)
    pub faults : store.faults first ≤ store.faults now

  -- the first k entries are stored, and the set has their ids. Any other id is as at first
  pub record HasPut (k : ℕ) (first now : S) (seen : BTreeSet (List ℕ)) : Type 0 where
    pub touched : HasTouched k first now
    pub holds : IfSome (store.holds now) (λ m. HoldsAll l k m)
    pub says : SaysAll l k (store.said now)
    pub seen_are : AreSeen l k seen
    pub unseen : (q : List ℕ) → is_seen seen q ≡ false
        → (store.asked now q ≡ store.asked first q) × HoldsStill q (store.holds first) (store.holds now)

-- how storing entries with this view ended
pub record PuttingEnds {V S : Type 0} (view : ViewWords V) (store : StoreWords S) (l : Listing) (first : S)
    (old new : V)
    (now : S) (result : Result Unit MakeFault) : Type 0 where
  pub touched : HasTouched store l (view.held old).bytes (count_of l) first now
  pub err : IfErr result (PutsEnd l (view.held old).bytes)
  pub kept : view.held new ≡ view.held old
  pub image_faults : CountsFaults faults.ImageFault faults.Memory (view.faults old) (view.faults new) result
  pub store_faults : CountsCause faults.StoreFault (store.faults first) (store.faults now) result

-- and after Ok the first k entries are stored
pub record SeesTo {V S : Type 0} (view : ViewWords V) (store : StoreWords S) (l : Listing) (k : ℕ) (first : S)
    (old new : V) (now : S) (seen : BTreeSet (List ℕ)) (result : Result Unit MakeFault) : Type 0 where
  pub put : OnOk result (HasPut store l (view.held old).bytes k first now seen)
  pub ends : PuttingEnds view store l first old new now result
