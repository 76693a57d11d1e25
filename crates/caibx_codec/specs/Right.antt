-- When bytes are the image that an index lists.
use Rattle.std.specs.Prelude.{◌≡◌, ℕ, ◌<◌, List, length}
use Rattle.caibx_codec.specs.Listing.{Listing, count_of, id_of, slice_of, kind_of, image_length}
use Rattle.chunk_store.specs.Digests.{digest_of}

-- the range of entry i has the listed digest
abbrev pub IsRightAt : List ℕ → Listing → ℕ → Type 0
IsRightAt t l i = digest_of (kind_of l) (slice_of l t i) ≡ id_of l i

-- so has each range, and the length is the image's
pub record IsRight (t : List ℕ) (l : Listing) : Type 0 where
  pub size : length t ≡ image_length l
  pub entries : (i : ℕ) → i < count_of l → IsRightAt t l i
