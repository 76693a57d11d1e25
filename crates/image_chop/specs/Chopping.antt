-- What chopping an image by its index may answer, and what it does to a store. l lists the chunks, t are the image's
-- bytes, and `told` are they where they are told.
use Rattle.std.specs.Prelude.{◌≡◌, ◌≢◌, ℕ, ◌+◌, ◌<◌, ◌≤◌, List, take, Option, IfSome, Result, Ok, Err}
use Rattle.std.specs.List.{count_by}
use Rattle.std.specs.Str.{bytes_eq}
use Rattle.caibx_codec.specs.Listing.{Listing, count_of, id_of, image_length, kind_of, slice_of}
use Rattle.caibx_codec.specs.Right.{IsRightAt}
use Rattle.chunk_store.specs.Digests.{digest_of}
use Rattle.chunk_store.specs.Said.{Said}
use Rattle.chunk_store.specs.declared.store.Store.{Ghosts as StoreWords}
use Rattle.image_store.specs.PutChunks.{HoldsAll, PutsFiles, SaysNamed, Stands, ToldMap}
use Rattle.image_chop.specs.declared.chop.ChopFault.{ChopFault}
use Rattle.image_chop.specs.declared.chop.ChopFault.TheVariants as faults

-- how many of the first entries are stored, by the answer: at least, and at most
abbrev pub seen_to : Listing → Result Unit ChopFault → ℕ
seen_to l (Ok u) = count_of l
seen_to l (Err (faults.Length n)) = 0
seen_to l (Err (faults.Mismatch k got)) = k
seen_to l (Err faults.ImageFault) = 0
seen_to l (Err faults.StoreFault) = 0
seen_to l (Err faults.Memory) = 0

abbrev pub most_seen : Listing → Result Unit ChopFault → ℕ
most_seen l (Ok u) = count_of l
most_seen l (Err (faults.Length n)) = 0
most_seen l (Err (faults.Mismatch k got)) = k
most_seen l (Err faults.ImageFault) = count_of l
most_seen l (Err faults.StoreFault) = count_of l
most_seen l (Err faults.Memory) = count_of l

-- what is answered of an image of this size: its size, exactly where it isn't the listed length
abbrev pub TellsLength : Listing → ℕ → Result Unit ChopFault → Type 0
TellsLength l size (Ok u) = size ≡ image_length l
TellsLength l size (Err (faults.Length n)) = (n ≡ size) × (size ≢ image_length l)
TellsLength l size (Err (faults.Mismatch k got)) = size ≡ image_length l
TellsLength l size (Err faults.ImageFault) = size ≡ image_length l
TellsLength l size (Err faults.StoreFault) = size ≡ image_length l
TellsLength l size (Err faults.Memory) = size ≡ image_length l

-- each slice of the entries before k has its listed digest
abbrev pub AreRightTo : Listing → ℕ → Option (List ℕ) → Type 0
AreRightTo l k told = IfSome told (λ t. (i : ℕ) → i < k → IsRightAt t l i)

-- a mismatch is of the first entry whose slice has another digest than is listed, and tells it
abbrev pub IsMismatch : Listing → Option (List ℕ) → ChopFault → Type 0
IsMismatch l told (faults.Mismatch k got) = (k < count_of l) × (got.0 ≢ id_of l k)
    × IfSome told (λ t. got.0 ≡ digest_of (kind_of l) (slice_of l t k)) × AreRightTo l k told
IsMismatch l told (faults.Length n) = Unit {0}
IsMismatch l told faults.ImageFault = Unit {0}
IsMismatch l told faults.StoreFault = Unit {0}
IsMismatch l told faults.Memory = Unit {0}

-- how many of the first k entries list the id q
abbrev pub times_listed : Listing → ℕ → List ℕ → ℕ
times_listed l k q = count_by (λ (e : ℕ × List ℕ). bytes_eq e.1 q) (take k l.entries)

-- each id was asked for at most once for each of the first k entries that list it
pub record AsksListed (l : Listing) (k : ℕ) (old new : List ℕ → ℕ) : Type 0 where
  pub no_less : (q : List ℕ) → old q ≤ new q
  pub most : (q : List ℕ) → new q ≤ old q + times_listed l k q

-- storing entry k ended early
abbrev pub StopsAt : Listing → ℕ → Option (List ℕ) → ChopFault → Type 0
StopsAt l k told (faults.Mismatch entry got) =
    (entry ≡ k) × (got.0 ≢ id_of l k) × IfSome told (λ t. got.0 ≡ digest_of (kind_of l) (slice_of l t k))
StopsAt l k told (faults.Length n) = ⊥
StopsAt l k told faults.ImageFault = Unit {0}
StopsAt l k told faults.StoreFault = Unit {0}
StopsAt l k told faults.Memory = Unit {0}

-- storing the entries in order ended at one of them: the chunks of those before it are held, and at most the entry
-- itself was touched besides. `held` and `now` are what the store held and holds, `old` and `new` the files of its
-- folder
pub record StopsInOrder (l : Listing) (told : Option (List ℕ)) (held now old new : ToldMap) : Type 0 where
  pub entry : ℕ
  pub right : AreRightTo l entry told
  pub holds : IfSome now (λ m. HoldsAll l entry m)
  pub changed : IfSome told (λ t. IfSome held (λ a. IfSome now (λ b. Stands l t (entry + 1) a b)))
  pub files : PutsFiles l told held (entry + 1) old new

-- of each entry before k, but of one with the id of entry k, the store has shown or taken bytes of that digest
abbrev pub SaysBefore : Listing → ℕ → Said → Type 0
SaysBefore l k said = (i : ℕ) → i < k → id_of l i ≢ id_of l k → SaysNamed (kind_of l) (id_of l i) said

-- storing the entries in order ended early with this store, which was asked for no id but those of the entries up to
-- that one
pub record ChopStops {S : Type 0} (store : StoreWords S) (l : Listing) (told : Option (List ℕ)) (old new : S) : Type 0
  where
    pub stops : StopsInOrder l told (store.holds old) (store.holds new) (store.folder old) (store.folder new)
    pub says : SaysBefore l stops.entry (store.said new)
    pub asks : AsksListed l (stops.entry + 1) (store.asked old) (store.asked new)
