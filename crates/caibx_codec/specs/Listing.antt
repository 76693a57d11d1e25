-- What an index lists.
use Rattle.std.specs.Prelude.{◌≡◌, ℕ, ◌+◌, ◌^◌, ◌<◌, ◌≤◌, List, [], ◌∷◌, ◌⊎◌, length, slice_index_or, slice_range, ◌-◌}
use Rattle.std.specs.Prelude.{◌==◌, if◌then◌else◌, nat_le, bit_and}
use Rattle.std.specs.List.{AllByRecursion}
use Rattle.chunk_store.specs.Digests.{IsId}
use Rattle.chunk_store.specs.declared.id.DigestKind.{DigestKind}
use Rattle.chunk_store.specs.declared.id.DigestKind.TheVariants as kinds
use Rattle.caibx_fields.specs.Limits.{digest_flag, size_limit, item_limit}

-- an index: its flags, the three sizes of chunks, and for each chunk where it ends and its digest
pub record Listing : Type 0 where
  pub flags : ℕ
  pub least : ℕ
  pub average : ℕ
  pub greatest : ℕ
  pub entries : List (ℕ × List ℕ)

abbrev pub count_of : Listing → ℕ
count_of l = length l.entries

-- where chunk i ends
abbrev pub end_of : Listing → ℕ → ℕ
end_of l i = (slice_index_or l.entries i (0, [])).0

-- where it begins; for the number of chunks, the length of the image
abbrev pub start_of : Listing → ℕ → ℕ
start_of l i = if i == 0 then 0 else end_of l (i - 1)

abbrev pub image_length : Listing → ℕ
image_length l = start_of l (count_of l)

abbrev pub size_of : Listing → ℕ → ℕ
size_of l i = end_of l i - start_of l i

-- n is the size of a listed chunk, or 0 where none is listed
abbrev pub IsListedSize : Listing → ℕ → Type 0
IsListedSize l n = ((i : ℕ) × (i < count_of l) × (size_of l i ≡ n)) ⊎ ((count_of l ≡ 0) × (n ≡ 0))

-- which digest names its chunks: what its flags say
unfoldable pub kind_of : Listing → DigestKind
kind_of l = if nat_le (bit_and l.flags digest_flag) 0 then kinds.Sha256 else kinds.Sha512T256

-- the bytes of t that chunk i covers
abbrev pub slice_of : Listing → List ℕ → ℕ → List ℕ
slice_of l t i = slice_range t (start_of l i) (end_of l i)

abbrev pub id_of : Listing → ℕ → List ℕ
id_of l i = (slice_index_or l.entries i (0, [])).1

-- the rules for the entries from a place on, after one that ends at `start`
abbrev pub AreChunks : ℕ → ℕ → List (ℕ × List ℕ) → Type 0
AreChunks greatest start [] = Unit {0}
AreChunks greatest start (e ∷ es) = (start < e.0) × (e.0 ≤ start + greatest) × AreChunks greatest e.0 es

-- an index that can be used
pub record IsValid (l : Listing) : Type 0 where
  pub size : l.greatest ≤ size_limit
  pub few : length l.entries ≤ item_limit
  pub chunks : AreChunks l.greatest 0 l.entries
  pub ids : AllByRecursion (λ e. IsId e.1) l.entries
  pub flags : l.flags < 2 ^ 64
  pub least : l.least < 2 ^ 64
  pub average : l.average < 2 ^ 64

-- what the rules say of each chunk by its number
pub record Rules (l : Listing) : Type 0 where
  pub size : l.greatest ≤ size_limit
  pub few : count_of l ≤ item_limit
  pub rises : (i : ℕ) → i < count_of l → start_of l i < end_of l i
  pub fits : (i : ℕ) → i < count_of l → end_of l i ≤ start_of l i + l.greatest
  pub holds : (i : ℕ) → i < count_of l → 0 < size_of l i
  pub at_most : (i : ℕ) → i < count_of l → size_of l i ≤ l.greatest
  pub next : (i : ℕ) → start_of l (i + 1) ≡ end_of l i
  pub inside : (i : ℕ) → i < count_of l → end_of l i ≤ image_length l
  pub ordered : (i j : ℕ) → i < j → j < count_of l → end_of l i ≤ start_of l j
  pub ids : (i : ℕ) → i < count_of l → IsId (id_of l i)
