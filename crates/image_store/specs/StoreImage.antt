-- What storing an image may answer, and what it does to the store; t are the image's bytes, and `told` are they where
-- they are told. The index names chunks by the digest `kind`.
use Rattle.std.specs.Prelude.{◌≡◌, ◌≢◌, ◌⊎◌, ℕ, List, Option, None, IfSome, Result, Ok, Err}
use Rattle.buzhash_cut.specs.Image.{IsIndexOfImage, HasTooManyCuts}
use Rattle.buzhash_cut.specs.Sizes.{Sizes}
use Rattle.caibx_codec.specs.Listing.{Listing, count_of}
use Rattle.caibx_codec.specs.Spelling.{IsIndexFile, file_of}
use Rattle.chunk_store.specs.Asks.{Sends, Sent}
use Rattle.chunk_store.specs.Said.{Said}
use Rattle.chunk_store.specs.declared.id.DigestKind.{DigestKind}
use Rattle.dsy_base.specs.Maps.{Map}
use Rattle.image_store.specs.PutChunks.{ToldMap, HoldsAll, KeepsListed, Stands, PutsFiles, AsksEach, SaysAll}
use Rattle.image_store.specs.declared.put_chunks.MakeFault.{MakeFault}
use Rattle.image_store.specs.declared.put_chunks.MakeFault.TheVariants as faults

-- what indexing an image may answer
abbrev pub Indexes : DigestKind → Sizes → List ℕ → Result Listing MakeFault → Type 0
Indexes kind s t (Ok l) = IsIndexOfImage kind s t l
Indexes kind s t (Err faults.TooManyItems) = HasTooManyCuts s t
Indexes kind s t (Err faults.ImageFault) = Unit {0}
Indexes kind s t (Err faults.Memory) = Unit {0}
Indexes kind s t (Err faults.StoreFault) = ⊥
Indexes kind s t (Err (faults.Changed k was got)) = ⊥

-- a fault of cutting
abbrev pub IsOfCutting : MakeFault → Type 0
IsOfCutting faults.StoreFault = ⊥
IsOfCutting (faults.Changed k was got) = ⊥
IsOfCutting other = Unit {0}

-- a fault of storing: what is named as changed has another digest
abbrev pub IsOfStoring : MakeFault → Type 0
IsOfStoring (faults.Changed k was got) = was.0 ≢ got.0
IsOfStoring other = Unit {0}

-- a fault that an image of these bytes can end with, whatever the store is: too many cuts are told of an image that has
-- too many, and a change only where the bytes aren't told
abbrev pub IsOfImage : Sizes → Option (List ℕ) → MakeFault → Type 0
IsOfImage s told faults.TooManyItems = IfSome told (λ t. HasTooManyCuts s t)
IsOfImage s told (faults.Changed k was got) = (told ≡ None) × (was.0 ≢ got.0)
IsOfImage s told faults.ImageFault = Unit {0}
IsOfImage s told faults.StoreFault = Unit {0}
IsOfImage s told faults.Memory = Unit {0}

-- some of the image's chunks may have been put into the store
abbrev pub PutsSome : DigestKind → Sizes → List ℕ → Map (List ℕ) → Map (List ℕ) → Type 0
PutsSome kind s t old new = (new ≡ old) ⊎ ((l : Listing) × IsIndexOfImage kind s t l × Stands l t (count_of l) old new)

-- each chunk of the image is held, and these bytes are the file of its index
abbrev pub IsStoredAs : DigestKind → Sizes → List ℕ → Map (List ℕ) → Map (List ℕ) → List ℕ → Type 0
IsStoredAs kind s t old new bytes =
    (l : Listing) × IsIndexOfImage kind s t l × HoldsAll l (count_of l) new × Stands l t (count_of l) old new
    × (bytes ≡ file_of l) × IsIndexFile bytes l

-- what is held where storing ended early
abbrev pub EndsEarly : DigestKind → Sizes → List ℕ → Map (List ℕ) → Map (List ℕ) → MakeFault → Type 0
EndsEarly kind s t old new faults.TooManyItems = (new ≡ old) × HasTooManyCuts s t
EndsEarly kind s t old new faults.ImageFault = PutsSome kind s t old new
EndsEarly kind s t old new faults.StoreFault = PutsSome kind s t old new
EndsEarly kind s t old new faults.Memory = PutsSome kind s t old new
EndsEarly kind s t old new (faults.Changed k was got) = ⊥

-- what storing an image may answer, over what the store holds under each id
abbrev pub StoresImage : {A : Type 0} → DigestKind → Sizes → (A → List ℕ) → List ℕ → Map (List ℕ) → Map (List ℕ)
    → Result A MakeFault → Type 0
StoresImage kind s bytes_of t old new (Ok v) = IsStoredAs kind s t old new (bytes_of v)
StoresImage kind s bytes_of t old new (Err fault) = EndsEarly kind s t old new fault

-- l is the image's index, where the image is told
abbrev pub Lists : DigestKind → Sizes → Option (List ℕ) → Listing → Type 0
Lists kind s told l = IfSome told (λ t. IsIndexOfImage kind s t l)

-- the folder's files are as before, or at most files of the index's chunks have changed that the store lacked
abbrev pub PutsFilesOf : DigestKind → Sizes → Option (List ℕ) → ToldMap → ToldMap → ToldMap → Type 0
PutsFilesOf kind s told held old new =
    (new ≡ old) ⊎ ((l : Listing) × Lists kind s told l × PutsFiles l told held (count_of l) old new)

-- nothing was asked for, or at most each id of the index once
abbrev pub AsksOf : DigestKind → Sizes → Option (List ℕ) → (List ℕ → ℕ) → (List ℕ → ℕ) → Type 0
AsksOf kind s told old new = (new ≡ old) ⊎ ((l : Listing) × Lists kind s told l × AsksEach l (count_of l) old new)

-- nothing was asked for or sent; or each id of the index at most once, and nothing sent but fronts of such requests
abbrev pub SendsOf : DigestKind → Sizes → Option (List ℕ) → (List ℕ → ℕ) → (List ℕ → ℕ) → Sent → Sent → Type 0
SendsOf kind s told asked asked_now sent sent_now = ((asked_now ≡ asked) × (sent_now ≡ sent))
    ⊎ ((l : Listing) × Lists kind s told l × AsksEach l (count_of l) asked asked_now
    × Sends (KeepsListed l) sent sent_now)

-- of each id of the index whose file these bytes are, the store has shown or taken bytes of that name
abbrev pub SaysOf : DigestKind → Sizes → Option (List ℕ) → List ℕ → Said → Type 0
SaysOf kind s told bytes said = (l : Listing) × Lists kind s told l × (bytes ≡ file_of l) × IsIndexFile bytes l
    × SaysAll l (count_of l) said
