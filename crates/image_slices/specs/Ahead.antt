-- Slices of an image that stand in a room before they are used. l lists the chunks, and `told` are the image's bytes
-- where they are told.
use Rattle.std.specs.Prelude.{◌≡◌, ℕ, ◌+◌, ◌/◌, ◌<◌, ◌≤◌, ◌⊎◌, All, List, length, slice_index_or, slice_range}
use Rattle.std.specs.Prelude.{vec_capacity, vec_len, Option, IfSome}
use Rattle.caibx_codec.specs.Listing.{Listing, count_of, id_of, kind_of, size_of, slice_of}
use Rattle.chunk_store.specs.Digests.{digest_of}
use Rattle.image_slices.specs.declared.ahead.Ahead.{Ahead}
use Rattle.image_slices.specs.declared.ahead.Piece.{Piece}

-- the bytes b have the size and the digest that are listed for entry i, and this is said of them
pub record IsListedSlice (l : Listing) (Says : ℕ → List ℕ → Type 0) (i : ℕ) (b : List ℕ) : Type 0 where
  pub size : length b ≡ size_of l i
  pub named : digest_of (kind_of l) b ≡ id_of l i
  pub is : Says i b

-- a view says of entry i and the bytes b that they are its slice of the image
abbrev pub TellsSlice : Listing → Option (List ℕ) → ℕ → List ℕ → Type 0
TellsSlice l told i b = IfSome told (λ t. b ≡ slice_of l t i)

-- the bytes b are the slice of entry i, and have its digest
abbrev pub IsSlice : Listing → Option (List ℕ) → ℕ → List ℕ → Type 0
IsSlice l told i b = IsListedSlice l (TellsSlice l told) i b

-- the piece is of a listed entry, and ends before `filled`
pub record IsPlacedPiece (l : Listing) (filled : ℕ) (p : Piece) : Type 0 where
  pub listed : p.entry < count_of l
  pub fits : p.at + size_of l p.entry ≤ filled

-- what stands in the room where the piece says
abbrev pub piece_slice : Listing → List ℕ → Piece → List ℕ
piece_slice l room p = slice_range room p.at (p.at + size_of l p.entry)

-- entries fall from piece to piece
abbrev pub EntriesFall : List Piece → Type 0
EntriesFall ps = (j k : ℕ) (d : Piece) → j < k → k < length ps
    → (slice_index_or ps k d).entry < (slice_index_or ps j d).entry

-- what is filled fits the room, and each piece is in it
pub record FitsItsRoom (l : Listing) (a : Ahead) : Type 0 where
  pub filled : a.filled ≤ length a.room.items
  pub pieces : All (IsPlacedPiece l a.filled) a.pieces.items
  pub falls : EntriesFall a.pieces.items

-- the bytes b stand in the room as the slice of entry i
pub record HasSlice (l : Listing) (a : Ahead) (i : ℕ) (b : List ℕ) : Type 0 where
  pub place : ℕ
  pub inside : place < length a.pieces.items
  pub entry : (d : Piece) → (slice_index_or a.pieces.items place d).entry ≡ i
  pub bytes : (d : Piece) → b ≡ piece_slice l a.room.items (slice_index_or a.pieces.items place d)

-- and each slice that stands there is of a listed entry, as is said
pub record IsAhead (l : Listing) (Says : ℕ → List ℕ → Type 0) (a : Ahead) : Type 0 where
  pub room : FitsItsRoom l a
  pub slices : (i : ℕ) (b : List ℕ) → HasSlice l a i b → IsListedSlice l Says i b

-- the slice of entry i fits behind those that stand in the room, and their entries are above it
pub record HasSpace (l : Listing) (i : ℕ) (a : Ahead) : Type 0 where
  pub above : All (λ p. i < p.entry) a.pieces.items
  pub bytes : a.filled + size_of l i ≤ length a.room.items
  pub place : vec_len a.pieces < vec_capacity a.pieces

-- so it does, and their entries are below it
pub record HasSpaceAbove (l : Listing) (i : ℕ) (a : Ahead) : Type 0 where
  pub below : All (λ p. p.entry < i) a.pieces.items
  pub bytes : a.filled + size_of l i ≤ length a.room.items
  pub place : vec_len a.pieces < vec_capacity a.pieces

-- the bytes b are put into the room as the slice of entry i, behind all that stood there
pub record AddsSlice (l : Listing) (i : ℕ) (b : List ℕ) (old new : Ahead) : Type 0 where
  pub room : FitsItsRoom l new
  pub added : HasSlice l new i b
  pub kept : (k : ℕ) (c : List ℕ) → HasSlice l old k c → HasSlice l new k c
  pub only : (k : ℕ) (c : List ℕ) → HasSlice l new k c → HasSlice l old k c ⊎ ((k ≡ i) × (c ≡ b))

-- how many bytes a room has for slices, by the size of the largest chunk: half a MiB less its list, and half a chunk
abbrev pub room_for : ℕ → ℕ
room_for largest = 507904 + largest / 2

-- the room has `size` bytes
abbrev pub HasBytes : ℕ → Ahead → Type 0
HasBytes size a = length a.room.items ≡ size
