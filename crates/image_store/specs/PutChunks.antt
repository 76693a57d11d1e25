-- What storing the chunks of an image does to a store. l lists the chunks, t are the image's bytes, and `told` are
-- bytes where they are told.
use Rattle.std.specs.Prelude.{◌≡◌, ◌≢◌, ◌⊎◌, slice_range, ℕ, ◌+◌, ◌<◌, ◌≤◌, List, Option, Some, IfSome, is_some}
use Rattle.std.specs.Option.{option_map}
use Rattle.caibx_codec.specs.Asks.{IsListedGet, IsListedPut}
use Rattle.caibx_codec.specs.Listing.{Listing, count_of, id_of, kind_of, slice_of}
use Rattle.caibx_codec.specs.Right.{IsRightAt}
use Rattle.chunk_store.specs.Asks.{Ask, Get, Put, Sends}
use Rattle.chunk_store.specs.Folders.{KeepsOthers}
use Rattle.chunk_store.specs.Digests.{digest_of}
use Rattle.chunk_store.specs.Paths.{path_of}
use Rattle.chunk_store.specs.Said.{AskedOnce, KeepsOf, Said}
use Rattle.chunk_store.specs.declared.id.DigestKind.{DigestKind}
use Rattle.chunk_store.specs.declared.store.Store.{Ghosts as StoreWords}
use Rattle.dsy_base.specs.Folders.{temporary_of}
use Rattle.dsy_base.specs.Maps.{Map, at_name}
use Rattle.image_store.specs.declared.put_chunks.MakeFault.{MakeFault}
use Rattle.image_store.specs.declared.put_chunks.MakeFault.TheVariants as faults

-- bytes under each id, or under each name of a folder, where they are told
abbrev pub ToldMap : Type 0
ToldMap = Option (Map (List ℕ))

-- bytes of the image by their offsets, and by the entry that they are the slice of
abbrev pub told_range : Option (List ℕ) → ℕ → ℕ → Option (List ℕ)
told_range told at end = option_map (λ t. slice_range t at end) told

-- the slice of entry i, if the image's bytes are told
abbrev pub told_slice : Listing → ℕ → Option (List ℕ) → Option (List ℕ)
told_slice l i told = option_map (λ t. slice_of l t i) told

-- ---- storing one chunk

-- b was put under this id
abbrev pub PutsUnder : List ℕ → List ℕ → ToldMap → ToldMap → Type 0
PutsUnder id b old new = new ≡ option_map (λ m. at_name m id (Some b)) old

-- each id holds what it held, or bytes of this digest were put under it, which are those that are told
abbrev pub PutsRight : DigestKind → List ℕ → Option (List ℕ) → ToldMap → ToldMap → Type 0
PutsRight kind id told old new =
    (new ≡ old) ⊎ ((b : List ℕ) × (digest_of kind b ≡ id) × IfSome told (λ t. b ≡ t) × PutsUnder id b old new)

-- the folder's files are as before; or the chunk wasn't held, and its own file and its temporary one may have changed
abbrev pub PutsLacked : List ℕ → Option (List ℕ) → ToldMap → ToldMap → ToldMap → Type 0
PutsLacked id told held old new =
    (new ≡ old) ⊎ (IfSome told (λ b. IfSome held (λ m. m id ≢ Some b)) × KeepsOthers id old new)

-- bytes of this digest are held
abbrev pub HoldsNamed : DigestKind → List ℕ → Option (List ℕ) → Type 0
HoldsNamed kind id held = (b : List ℕ) × (held ≡ Some b) × (digest_of kind b ≡ id)

-- the store has shown or taken bytes of this digest under the id
abbrev pub SaysNamed : DigestKind → List ℕ → Said → Type 0
SaysNamed kind id said = (b : List ℕ) × (digest_of kind b ≡ id) × (said.shown id b ⊎ said.taken id b)

-- why storing entry k of this id ended early, where the image's slice is `told`
abbrev pub EndsAt : DigestKind → ℕ → List ℕ → Option (List ℕ) → MakeFault → Type 0
EndsAt kind k id told (faults.Changed entry was got) =
    (entry ≡ k) × (was.0 ≡ id) × (got.0 ≢ id) × IfSome told (λ b. got.0 ≡ digest_of kind b)
EndsAt kind k id told faults.TooManyItems = ⊥
EndsAt kind k id told faults.ImageFault = Unit {0}
EndsAt kind k id told faults.StoreFault = Unit {0}
EndsAt kind k id told faults.Memory = Unit {0}

-- how reading the slice again ended
abbrev pub RereadsTo : DigestKind → ℕ → List ℕ → Option (List ℕ) → MakeFault → Type 0
RereadsTo kind k id told (faults.Changed entry was got) = EndsAt kind k id told (faults.Changed entry was got)
RereadsTo kind k id told faults.ImageFault = Unit {0}
RereadsTo kind k id told faults.TooManyItems = ⊥
RereadsTo kind k id told faults.StoreFault = ⊥
RereadsTo kind k id told faults.Memory = ⊥

-- the chunk of this id is asked for, or bytes of this digest are put under it
abbrev pub KeepsNamed : DigestKind → List ℕ → Ask → Type 0
KeepsNamed kind id a = (a ≡ Get id) ⊎ ((b : List ℕ) × (a ≡ Put id b) × (digest_of kind b ≡ id))

module _ {S : Type 0} (store : StoreWords S) (kind : DigestKind) (id : List ℕ) where
  -- the store holds bytes of this digest under the id, and has shown or taken some
  pub record HasChunk (now : S) : Type 0 where
    pub holds : IfSome (store.holds now) (λ m. HoldsNamed kind id (m id))
    pub says : SaysNamed kind id (store.said now)

  -- it was asked for the chunk at most once, and at most bytes of this digest were put under the id: those that are
  -- told
  pub record TouchesChunk (told : Option (List ℕ)) (old new : S) : Type 0 where
    pub puts : PutsRight kind id told (store.holds old) (store.holds new)
    pub files : PutsLacked id told (store.holds old) (store.folder old) (store.folder new)
    pub place : store.place new ≡ store.place old
    pub said : (q : List ℕ) → q ≢ id → KeepsOf (store.said old) (store.said new) q
    pub sends : Sends (KeepsNamed kind id) (store.sent old) (store.sent new)
    pub asks : AskedOnce (store.asked old) (store.asked new) id
    pub queries : store.queried new ≡ store.queried old

-- the chunk of an entry is asked for, or put
abbrev pub KeepsListed : Listing → Ask → Type 0
KeepsListed l a = IsListedGet l a ⊎ IsListedPut l a

-- ---- storing the first k chunks

-- the id q is one of theirs
pub record IsListedId (l : Listing) (k : ℕ) (q : List ℕ) : Type 0 where
  pub entry : ℕ
  pub below : entry < k
  pub id : q ≡ id_of l entry

-- the id q is one of theirs, and the image's slice is held under it, which has that digest
pub record IsStored (l : Listing) (t : List ℕ) (k : ℕ) (q : List ℕ) (held : Option (List ℕ)) : Type 0 where
  pub entry : ℕ
  pub below : entry < k
  pub id : q ≡ id_of l entry
  pub slice : held ≡ Some (slice_of l t entry)
  pub right : IsRightAt t l entry

-- each id holds what it held, or is one of theirs and holds the image's slice
abbrev pub Stands : Listing → List ℕ → ℕ → Map (List ℕ) → Map (List ℕ) → Type 0
Stands l t k old new = (q : List ℕ) → (new q ≡ old q) ⊎ IsStored l t k q (new q)

-- under each of the ids bytes of that digest are held
abbrev pub HoldsAll : Listing → ℕ → Map (List ℕ) → Type 0
HoldsAll l k m = (i : ℕ) → i < k → HoldsNamed (kind_of l) (id_of l i) (m (id_of l i))

-- of each of the ids the store has shown or taken bytes of that digest
abbrev pub SaysAll : Listing → ℕ → Said → Type 0
SaysAll l k said = (i : ℕ) → i < k → SaysNamed (kind_of l) (id_of l i) said

-- the name q is the path of one of the chunks or its temporary file, and the image's slice wasn't held under its id
pub record IsPut (l : Listing) (told : Option (List ℕ)) (held : ToldMap) (k : ℕ) (q : List ℕ) : Type 0 where
  pub entry : ℕ
  pub below : entry < k
  pub file : (q ≡ path_of (id_of l entry)) ⊎ (q ≡ temporary_of (path_of (id_of l entry)))
  pub lacked : IfSome told (λ t. IfSome held (λ m. m (id_of l entry) ≢ Some (slice_of l t entry)))

-- each name of the folder holds what it held, or is such a file. `held` is what the store held at first
pub record PutsFiles (l : Listing) (told : Option (List ℕ)) (held : ToldMap) (k : ℕ) (old new : ToldMap) : Type 0 where
  pub tells : is_some new ≡ is_some old
  pub files : IfSome old (λ m. IfSome new (λ n. (q : List ℕ) → (n q ≡ m q) ⊎ IsPut l told held k q))

-- each of the ids was asked for once at most, and no other
pub record AsksEach (l : Listing) (k : ℕ) (old new : List ℕ → ℕ) : Type 0 where
  pub no_less : (q : List ℕ) → old q ≤ new q
  pub once : (q : List ℕ) → new q ≤ old q + 1
  pub listed : (q : List ℕ) → (new q ≡ old q) ⊎ IsListedId l k q

-- storing all chunks ended early
abbrev pub PutsEnd : Listing → Option (List ℕ) → MakeFault → Type 0
PutsEnd l told (faults.Changed entry was got) =
    (was.0 ≢ got.0) × (entry < count_of l) × (was.0 ≡ id_of l entry)
    × IfSome told (λ t. got.0 ≡ digest_of (kind_of l) (slice_of l t entry))
PutsEnd l told faults.TooManyItems = ⊥
PutsEnd l told faults.ImageFault = Unit {0}
PutsEnd l told faults.StoreFault = Unit {0}
PutsEnd l told faults.Memory = Unit {0}
