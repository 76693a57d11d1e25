-- The bytes of an index file, by casync's format: a head of 48 bytes, the table's head of 16, 40 for each chunk and a
-- tail of 40. Numbers are words of 64 bits, low byte first.
use Rattle.std.specs.Prelude.{◌≡◌, ℕ, ◌+◌, ◌*◌, ◌^◌, ◌<◌, List, [], ◌∷◌, ◌++◌, length}
use Rattle.std.specs.List.{flat_map}
use Rattle.caibx_fields.specs.Words.{word, words}
use Rattle.caibx_codec.specs.Listing.{Listing, IsValid}

-- the eight words of the head and the table's head: the head's size and type, the flags and the three sizes, then a
-- size that says nothing and the table's type
abbrev pub front_words : Listing → List ℕ
front_words l =
    48 ∷ 0x96824d9c7b129ff9 ∷ l.flags ∷ l.least ∷ l.average ∷ l.greatest
    ∷ 0xffffffffffffffff ∷ 0xe75b9e112f17417d ∷ []

-- a chunk: where it ends, and its id
unfoldable pub item : ℕ × List ℕ → List ℕ
item e = word e.0 ++ e.1

unfoldable pub items : List (ℕ × List ℕ) → List ℕ
items es = flat_map item es

-- the five words of the tail: a 0 in the place of an end, another, two numbers that are free, and the marker
abbrev pub tail_words : ℕ → ℕ → List ℕ
tail_words offset size = 0 ∷ 0 ∷ offset ∷ size ∷ 0x4b4f050e5549ecd1 ∷ []

-- the bytes of an index, with these two numbers in the tail
unfoldable pub spelling : Listing → ℕ → ℕ → List ℕ
spelling l offset size = (words (front_words l) ++ items l.entries) ++ words (tail_words offset size)

-- the file as it is written, with the offset of the table, and its size with its head and the tail
abbrev pub file_of : Listing → List ℕ
file_of l = spelling l 48 (56 + 40 * length l.entries)

-- the tail as it is written, with 48 and 56 + 40 n
abbrev pub written_tail : Listing → List ℕ
written_tail l = tail_words 48 (56 + 40 * length l.entries)

-- the bytes are the index's, with any two numbers in the tail
pub record Spells (bytes : List ℕ) (l : Listing) : Type 0 where
  pub offset : ℕ
  pub size : ℕ
  pub offset_fits : offset < 2 ^ 64
  pub size_fits : size < 2 ^ 64
  pub is : bytes ≡ spelling l offset size

-- the bytes are the index file of this index
pub record IsIndexFile (bytes : List ℕ) (l : Listing) : Type 0 where
  pub spells : Spells bytes l
  pub valid : IsValid l

-- the bytes are a front of some index file
abbrev pub BeginsFile : List ℕ → Type 0
BeginsFile bytes = (rest : List ℕ) × (l : Listing) × IsIndexFile (bytes ++ rest) l
