-- What a range of an image is. A store is the map from ids to bytes that it holds. The range is the n bytes from the
-- offset `at` on.
use Rattle.std.specs.Prelude.{◌≡◌, ◌≢◌, ◌⊎◌, ℕ, ◌+◌, ◌==◌, ◌&&◌, Bool, List, [], ◌∷◌, length, slice_range}
use Rattle.std.specs.Prelude.{if◌then◌else◌, Option, Some, None, Result, Ok, Err}
use Rattle.std.specs.List.{Any, flat_map, range_with_len, repeat}
use Rattle.std.specs.Str.{bytes_eq}
use Rattle.caibx_codec.specs.Listing.{Listing, count_of, id_of, image_length, kind_of, size_of}
use Rattle.caibx_codec.specs.Right.{IsRightAt}
use Rattle.chunk_store.specs.Giving.{GivesChunk, IsChunk}
use Rattle.chunk_store.specs.Digests.{digest_of}
use Rattle.chunk_store.specs.declared.id.DigestKind.{DigestKind}
use Rattle.dsy_base.specs.Maps.{Map}
use Rattle.image_reader.specs.Covered.{IsCovered}
use Rattle.image_reader.specs.declared.refused.ReadRefused.{ReadRefused}
use Rattle.image_reader.specs.declared.refused.ReadRefused.TheVariants as reads

-- t is as long as the image, and right in each entry that the range covers
pub record IsRightInRange (t : List ℕ) (l : Listing) (at n : ℕ) : Type 0 where
  pub size : length t ≡ image_length l
  pub entries : (i : ℕ) → IsCovered l at n i → IsRightAt t l i

-- two unequal pieces of bytes are the chunk of an entry that the range covers
pub record HasTwinsIn (l : Listing) (at n : ℕ) : Type 0 where
  pub entry : ℕ
  pub covered : IsCovered l at n entry
  pub one : List ℕ
  pub other : List ℕ
  pub differ : one ≢ other
  pub first : IsChunk (kind_of l) (id_of l entry) (size_of l entry) one
  pub second : IsChunk (kind_of l) (id_of l entry) (size_of l entry) other

-- the bytes are those of t in the range, but where two unequal pieces have one digest
abbrev pub IsRange : Listing → ℕ → ℕ → List ℕ → List ℕ → Type 0
IsRange l at n t out = (out ≡ slice_range t at (at + n)) ⊎ HasTwinsIn l at n

-- whether the bytes are the chunk of this id and size
abbrev pub is_chunk_of : DigestKind → List ℕ → ℕ → List ℕ → Bool
is_chunk_of kind id size b = bytes_eq (digest_of kind b) id && (length b == size)

-- the bytes that a map holds, where they are the chunk, and otherwise the rest
abbrev pub held_or_zeros : DigestKind → List ℕ → ℕ → List ℕ → Option (List ℕ) → List ℕ
held_or_zeros kind id size rest None = rest
held_or_zeros kind id size rest (Some b) = if is_chunk_of kind id size b then b else rest

-- the bytes of a chunk as the first map that gives it has them, or zeros where none does
abbrev pub given_or_zeros : DigestKind → List ℕ → ℕ → List (Map (List ℕ)) → List ℕ
given_or_zeros kind id size [] = repeat size (0 ∷ [])
given_or_zeros kind id size (m ∷ ms) = held_or_zeros kind id size (given_or_zeros kind id size ms) (m id)

-- the image of the stores that hold the maps: for each entry the bytes that the first giving store holds, or as many
-- zeros as the entry has bytes
abbrev pub image_of_stores : Listing → List (Map (List ℕ)) → List ℕ
image_of_stores l maps =
    flat_map (λ i. given_or_zeros (kind_of l) (id_of l i) (size_of l i) maps) (range_with_len 0 (count_of l))

-- some map gives the chunk of entry i
abbrev pub SomeGivesEntry : Listing → ℕ → List (Map (List ℕ)) → Type 0
SomeGivesEntry l i maps = Any (λ m. GivesChunk (kind_of l) (id_of l i) (size_of l i) (m (id_of l i))) maps

-- what is answered where the maps give each covered chunk and nothing fails: the range of the stores' image. Want of
-- memory is free
abbrev pub ReadsImage : Listing → ℕ → List (Map (List ℕ)) → Result Unit ReadRefused → List ℕ → Type 0
ReadsImage l at maps (Ok u) out = IsRange l at (length out) (image_of_stores l maps) out
ReadsImage l at maps (Err (reads.Missing entry id)) out = ⊥
ReadsImage l at maps (Err (reads.Damaged entry id store shows)) out = ⊥
ReadsImage l at maps (Err (reads.StoreFault store)) out = ⊥
ReadsImage l at maps (Err reads.Memory) out = Unit {0}
