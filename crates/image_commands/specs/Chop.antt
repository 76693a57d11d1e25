-- `chop -s STORE INDEX IMAGE`. A name is its bytes; t are the image's bytes.
use Rattle.std.specs.Prelude.{◌≡◌, ◌≢◌, ℕ, ◌+◌, List, [], ◌∷◌, length, Option, Some, IfSome, IsTrue, not}
use Rattle.std.specs.Prelude.{Result, Ok, Err, OnErr}
use Rattle.caibx_codec.specs.Listing.{Listing, count_of, image_length}
use Rattle.caibx_codec.specs.Right.{IsRight}
use Rattle.chunk_store.specs.Folders.{chunks}
use Rattle.command_outcome.specs.declared.outcome.Outcome.{Outcome}
use Rattle.command_outcome.specs.declared.outcome.Outcome.TheVariants as ends
use Rattle.command_steps.specs.Asking.{Asks, AsksOnly, EachDialed}
use Rattle.command_indexes.specs.Gets.{IndexGot}
use Rattle.command_steps.specs.InputFiles.{ImageOpened}
use Rattle.command_steps.specs.Sources.{OnStorage, Storage, StoreRose, said_at}
use Rattle.command_steps.specs.Stores.{is_folder}
use Rattle.command_worlds.specs.Steps.{◌>>=◌}
use Rattle.command_steps.specs.TakenStores.{SourceTaken}
use Rattle.command_worlds.specs.Worlds.{FileRose, OnDisk, Step, World}
use Rattle.command_words.specs.declared.command.Location.{Location}
use Rattle.image_commands.specs.Make.{AnySaid, WritesStore, StoreGiven}
use Rattle.dsy_base.specs.Maps.{Map}
use Rattle.image_chop.specs.Chopping.{AreRightTo, IsMismatch, SaysBefore, StopsInOrder, most_seen, seen_to}
use Rattle.image_chop.specs.Chopping.{times_listed}
use Rattle.image_store.specs.PutChunks.{HoldsAll, KeepsListed, PutsFiles, SaysAll, Stands}
use Rattle.image_chop.specs.declared.chop.ChopFault.{ChopFault}
use Rattle.image_chop.specs.declared.chop.ChopFault.TheVariants as faults

-- ---- chopping the image into a store that was taken

-- what chopping made of the folder's files f: g. `told` are the image's bytes, where they are told. Where it ended
-- early, it has chopped the entries before one of them, and touched none after that
pub record ChoppedTo (l : Listing) (told : Option (List ℕ)) (r : Result Unit ChopFault) (f g : Map (List ℕ)) : Type 0
  where
    pub holds : HoldsAll l (seen_to l r) (chunks g)
    pub changed : IfSome told (λ t. Stands l t (most_seen l r) (chunks f) (chunks g))
    pub files : PutsFiles l told (Some (chunks f)) (most_seen l r) (Some f) (Some g)
    pub order : OnErr r (StopsInOrder l told (Some (chunks f)) (Some (chunks g)) (Some f) (Some g))

-- the image has the listed length
abbrev pub HasLength : Listing → Option (List ℕ) → Type 0
HasLength l told = IfSome told (λ t. length t ≡ image_length l)

module _ (l : Listing) (image : List ℕ) (told : Option (List ℕ)) (store : Location) (held : Option (Map (List ℕ))) where
  -- the store was given back after chopping that ended so. Of each entry that was chopped, a server has taken or shown
  -- bytes of the listed digest
  abbrev pub ChopGiven : Result Unit ChopFault → Storage → Storage → Type 0
  ChopGiven r w v = StoreGiven store held (ChoppedTo l told r) (SaysAll l (seen_to l r)) w v

  abbrev pub NotChopped : Storage → Storage → Outcome → Type 0
  NotChopped w v (ends.Length n) =
      (n ≢ image_length l) × IfSome told (λ t. n ≡ length t) × StoreGiven store held (λ f g. g ≡ f) AnySaid w v
  NotChopped w v (ends.Mismatch k got) = HasLength l told × IsMismatch l told (faults.Mismatch k got)
      × ChopGiven (Err (faults.Mismatch k got)) w v
  NotChopped w v ends.ImageFault =
      HasLength l told × FileRose w.disk v.disk image × ChopGiven (Err faults.ImageFault) w v
  NotChopped w v (ends.StoreFault k) =
      (k ≡ 0) × HasLength l told × StoreRose w v store × ChopGiven (Err faults.StoreFault) w v
  NotChopped w v ends.Memory = HasLength l told × ChopGiven (Err faults.Memory) w v
  NotChopped w v other = ⊥

  -- a server is asked for the chunk of an id at most once for each entry that lists it, and never whether it has one;
  -- and it is sent nothing but fronts of requests that get or put listed chunks
  abbrev pub GetsEntries : Storage → Storage → Type 0
  GetsEntries w v = EachDialed (AsksOnly (times_listed l (count_of l)) (λ id. 0) (KeepsListed l)) (store ∷ [])
      w.dial.ended v.dial.ended

  -- chopping into a server ended at this entry: those before it are right, and of their chunks the server has taken or
  -- shown bytes of the listed digests; it was asked for these and for that of the entry alone
  pub record StopsAtServer (w v : Storage) : Type 0 where
    pub entry : ℕ
    pub right : AreRightTo l entry told
    pub says : SaysBefore l entry (said_at w v store)
    pub gets : EachDialed (Asks (times_listed l (entry + 1)) (λ id. 0)) (store ∷ []) w.dial.ended v.dial.ended

  abbrev pub ImageChopped : Step Storage Unit
  ImageChopped w (Ok u) v = IfSome told (λ t. IsRight t l) × ChopGiven (Ok u) w v × WritesStore (image ∷ []) store w v
      × GetsEntries w v
  ImageChopped w (Err o) v = NotChopped w v o × WritesStore (image ∷ []) store w v × GetsEntries w v
      × (IsTrue (not (is_folder store)) → StopsAtServer w v)

-- the answer of a chop
abbrev pub answer_of_chop : Result Unit ChopFault → Result Unit Outcome
answer_of_chop (Ok u) = Ok tt
answer_of_chop (Err (faults.Length n)) = Err (ends.Length n)
answer_of_chop (Err (faults.Mismatch k got)) = Err (ends.Mismatch k got)
answer_of_chop (Err faults.ImageFault) = Err ends.ImageFault
answer_of_chop (Err faults.StoreFault) = Err (ends.StoreFault 0)
answer_of_chop (Err faults.Memory) = Err ends.Memory

-- ---- the command

abbrev pub ChopEnds : Location → List ℕ → List ℕ → Step World Unit
ChopEnds store index image = do
  l ← OnStorage (IndexGot index)
  told ← OnDisk (ImageOpened image)
  held ← OnDisk (SourceTaken (image ∷ []) store)
  OnStorage (ImageChopped l image told store held)

-- INDEX spells this index, by the relation that is given, and IMAGE is the image that it lists
pub record IsChopped (Spelled : List ℕ → Listing → Type 0) (files : Map (List ℕ)) (index image : List ℕ) (l : Listing)
    : Type 0 where
  pub listed : Spelled index l
  pub bytes : List ℕ
  pub there : files image ≡ Some bytes
  pub right : IsRight bytes l
