-- `make -s STORE INDEX IMAGE`. A name is its bytes; t are the image's bytes.
use Rattle.std.specs.Prelude.{◌≡◌, ◌≢◌, ◌⊎◌, min, ℕ, ◌<◌, List, []}
use Rattle.std.specs.Prelude.{◌∷◌, slice_index, Option, Some, None, IfSome, IsTrue, not}
use Rattle.std.specs.Prelude.{Result, Ok, Err}
use Rattle.std.specs.Option.{option_map}
use Rattle.buzhash_cut.specs.Image.{HasTooManyCuts, IsIndexOfImage}
use Rattle.buzhash_cut.specs.Sizes.{Sizes, size_fault}
use Rattle.caibx_codec.specs.Listing.{Listing, count_of, id_of}
use Rattle.caibx_codec.specs.Spelling.{IsIndexFile, file_of}
use Rattle.chunk_store.specs.Folders.{chunks}
use Rattle.chunk_store.specs.Said.{Said}
use Rattle.chunk_store.specs.declared.id.DigestKind.{DigestKind}
use Rattle.command_outcome.specs.declared.outcome.Outcome.{Outcome}
use Rattle.command_outcome.specs.declared.outcome.Outcome.TheVariants as ends
use Rattle.command_steps.specs.Asking.{AsksOnly, EachDialed}
use Rattle.command_steps.specs.InputFiles.{ImageOpened}
use Rattle.command_steps.specs.Sources.{DialsStores, OnStorage, Storage, StoreRose, said_at}
use Rattle.command_worlds.specs.Steps.{◌>>=◌}
use Rattle.command_steps.specs.Stores.{is_folder}
use Rattle.command_steps.specs.TakenStores.{SourceTaken}
use Rattle.command_steps.specs.Uses.{Uses, folders_among}
use Rattle.command_worlds.specs.Worlds.{Adds, FileRose, OnDisk, Pure, Step, World, Writes}
use Rattle.command_words.specs.declared.command.Location.{Location}
use Rattle.command_words.specs.declared.command.Location.TheVariants as locations
use Rattle.dsy_base.specs.Disk.{Disk}
use Rattle.dsy_base.specs.Maps.{Map, at_name}
use Rattle.image_store.specs.PutChunks.{KeepsListed, HoldsAll, SaysAll}
use Rattle.image_chop.specs.Chopping.{times_listed}
use Rattle.image_store.specs.StoreImage.{Lists, PutsFilesOf, SaysOf, StoresImage}
use Rattle.image_store.specs.declared.put_chunks.MakeFault.{MakeFault}
use Rattle.image_store.specs.declared.put_chunks.MakeFault.TheVariants as faults

-- ---- the sizes by which the image is to be cut

abbrev pub cut_sizes_of : List ℕ → Sizes
cut_sizes_of n = record { least = slice_index n 0; average = slice_index n 1; greatest = slice_index n 2 }

-- they are refused exactly by their first fault
abbrev pub SizesJudged : List ℕ → Result Sizes Outcome → Type 0
SizesJudged n (Ok s) = (s ≡ cut_sizes_of n) × (size_fault (cut_sizes_of n) ≡ None)
SizesJudged n (Err (ends.Sizes fault)) = size_fault (cut_sizes_of n) ≡ Some fault
SizesJudged n (Err other) = ⊥

-- ---- storing the image in a store that was taken

-- the folder, whose files were `held`, was given back, and its files stand to those as P says
abbrev pub FolderGivenBack : Disk → Disk → List ℕ → Option (Map (List ℕ)) → (Map (List ℕ) → Map (List ℕ) → Type 0)
    → Type 0
FolderGivenBack d e q held P =
    IfSome d.folders (λ m. IfSome held (λ f. (g : Map (List ℕ)) × (e.folders ≡ Some (at_name m q (Some g))) × P f g))

-- so it was with the folder of a store. Where it is a server, Q holds for what that has said since
abbrev pub StoreGiven : Location → Option (Map (List ℕ)) → (Map (List ℕ) → Map (List ℕ) → Type 0) → (Said → Type 0)
    → Storage → Storage → Type 0
StoreGiven (locations.Folder q) held P Q w v = FolderGivenBack w.disk v.disk q held P
StoreGiven (locations.Http host port prefix) held P Q w v = Q (said_at w v (locations.Http host port prefix))

-- nothing is claimed of what it has said
abbrev pub AnySaid : Said → Type 0
AnySaid said = Unit {0}

-- what a step leaves that writes a store while these images are open: files stay, and no number falls. Where it is a
-- server, folders stay too; where it is a folder, no server was asked
pub record WritesStore (images : List (List ℕ)) (store : Location) (w v : Storage) : Type 0 where
  pub adds : Adds w.disk v.disk
  pub folders : IsTrue (not (is_folder store)) → v.disk.folders ≡ w.disk.folders
  pub dials : DialsStores (store ∷ []) w.dial v.dial
  pub used : Uses images (folders_among (store ∷ [])) w.disk v.disk

-- what storing the image made of the folder's files f: g. `told` are the image's bytes, where they are told
pub record MadeOf (kind : DigestKind) (s : Sizes) (told : Option (List ℕ)) (r : Result (List ℕ) MakeFault)
    (f g : Map (List ℕ)) : Type 0
  where
    pub holds : IfSome told (λ t. StoresImage kind s (λ b. b) t (chunks f) (chunks g) r)
    pub files : PutsFilesOf kind s told (Some (chunks f)) (Some f) (Some g)

-- the image has no more cuts than an index may list
abbrev pub HasFewCuts : Sizes → Option (List ℕ) → Type 0
HasFewCuts s told = IfSome told (λ t. HasTooManyCuts s t → ⊥)

-- once, where the index lists the id
abbrev pub once_listed : Listing → List ℕ → ℕ
once_listed l id = min 1 (times_listed l (count_of l) id)

-- a server is asked for the chunk of an id at most once, and only if the image's index lists it; and never whether it
-- has one. Each connection sent a front of such a request, or of one that puts, under a listed id, bytes that have this
-- digest
abbrev pub GetsImage : DigestKind → Sizes → Option (List ℕ) → Location → Storage → Storage → Type 0
GetsImage kind s told store w v =
    EachDialed (AsksOnly (λ id. 0) (λ id. 0) (λ a. ⊥)) (store ∷ []) w.dial.ended v.dial.ended
    ⊎ ((l : Listing) × Lists kind s told l
    × EachDialed (AsksOnly (once_listed l) (λ id. 0) (KeepsListed l)) (store ∷ []) w.dial.ended v.dial.ended)

module _ (kind : DigestKind) (s : Sizes) (image : List ℕ) (told : Option (List ℕ)) (store : Location)
    (held : Option (Map (List ℕ))) where
  abbrev pub NotStored : Storage → Storage → Outcome → Type 0
  NotStored w v ends.TooManyItems = IfSome told (λ t. HasTooManyCuts s t)
      × StoreGiven store held (λ f g. (g ≡ f) × MadeOf kind s told (Err faults.TooManyItems) f g) AnySaid w v
  NotStored w v ends.ImageFault = FileRose w.disk v.disk image
      × StoreGiven store held (MadeOf kind s told (Err faults.ImageFault)) AnySaid w v
  NotStored w v (ends.Changed k was got) = (told ≡ None) × (was.0 ≢ got.0)
      × StoreGiven store held (MadeOf kind s told (Err (faults.Changed k was got))) AnySaid w v
  NotStored w v (ends.StoreFault k) = (k ≡ 0) × StoreRose w v store × HasFewCuts s told
      × StoreGiven store held (MadeOf kind s told (Err faults.StoreFault)) AnySaid w v
  NotStored w v ends.Memory = StoreGiven store held (MadeOf kind s told (Err faults.Memory)) AnySaid w v
  NotStored w v other = ⊥

  abbrev pub ImageStored : Step Storage (List ℕ)
  ImageStored w (Ok bytes) v = HasFewCuts s told
      × StoreGiven store held (MadeOf kind s told (Ok bytes)) (SaysOf kind s told bytes) w v
      × WritesStore (image ∷ []) store w v × GetsImage kind s told store w v
  ImageStored w (Err o) v = NotStored w v o × WritesStore (image ∷ []) store w v × GetsImage kind s told store w v

-- the store is taken, and the image stored in it
abbrev pub StoredInto : Location → DigestKind → Sizes → List ℕ → Option (List ℕ) → Step World (List ℕ)
StoredInto store kind s image told = do
  held ← OnDisk (SourceTaken (image ∷ []) store)
  OnStorage (ImageStored kind s image told store held)

-- the answer of storing, where what it gives is seen as A
abbrev pub answer_of_storing : {A : Type 0} → Result A MakeFault → Result A Outcome
answer_of_storing (Ok bytes) = Ok bytes
answer_of_storing (Err faults.ImageFault) = Err ends.ImageFault
answer_of_storing (Err faults.TooManyItems) = Err ends.TooManyItems
answer_of_storing (Err (faults.Changed k was got)) = Err (ends.Changed k was got)
answer_of_storing (Err faults.StoreFault) = Err (ends.StoreFault 0)
answer_of_storing (Err faults.Memory) = Err ends.Memory

-- ---- writing the index

abbrev pub NotWritten : Disk → Disk → List ℕ → Outcome → Type 0
NotWritten d e q (ends.FileFault name) = (name ≡ q) × FileRose d e q
NotWritten d e q ends.Memory = Unit {0}
NotWritten d e q other = ⊥

abbrev pub IndexWritten : List ℕ → List ℕ → Step Disk Unit
IndexWritten q bytes d (Ok u) e = (e.files ≡ option_map (λ m. at_name m q (Some bytes)) d.files) × Writes d e
    × Uses (q ∷ []) [] d e
IndexWritten q bytes d (Err o) e = NotWritten d e q o × (e.files ≡ d.files) × Writes d e × Uses (q ∷ []) [] d e

-- ---- the command

abbrev pub MakeEnds : Location → DigestKind → List ℕ → List ℕ → List ℕ → Step World Unit
MakeEnds store kind sizes index image = do
  s ← Pure (SizesJudged sizes)
  told ← OnDisk (ImageOpened image)
  held ← OnDisk (SourceTaken (image ∷ []) store)
  bytes ← OnStorage (ImageStored kind s image told store held)
  OnDisk (IndexWritten index bytes)

-- INDEX holds the index file of this index, which is that of the image that IMAGE held, its chunks named by this digest
pub record IsMade (files files_after : Map (List ℕ)) (kind : DigestKind) (sizes index image : List ℕ) (l : Listing) :
    Type 0
  where
    pub bytes : List ℕ
    pub image_was : files image ≡ Some bytes
    pub of_image : IsIndexOfImage kind (cut_sizes_of sizes) bytes l
    pub file : List ℕ
    pub written : files_after index ≡ Some file
    pub is_file : IsIndexFile file l
    pub spelled : file ≡ file_of l

-- the folder holds under each id that l lists bytes of that name, and under each other id what it held
pub record FolderHas (folders folders_after : Map (Map (List ℕ))) (folder : List ℕ) (l : Listing) : Type 0 where
  pub held : Map (List ℕ)
  pub folder_was : folders folder ≡ Some held
  pub now : Map (List ℕ)
  pub folder_is : folders_after folder ≡ Some now
  pub holds : HoldsAll l (count_of l) (chunks now)
  pub others : (id : List ℕ) → ((i : ℕ) → i < count_of l → id_of l i ≢ id) → chunks now id ≡ chunks held id

-- so it is with the folder of a store. A server has taken or shown, under each listed id, bytes of that name
abbrev pub StoreHas : Storage → Storage → Location → Listing → Type 0
StoreHas w v (locations.Folder q) l = IfSome w.disk.folders (λ f. IfSome v.disk.folders (λ g. FolderHas f g q l))
StoreHas w v (locations.Http host port prefix) l =
    SaysAll l (count_of l) (said_at w v (locations.Http host port prefix))
