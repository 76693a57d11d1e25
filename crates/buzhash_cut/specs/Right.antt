-- When two images have chunks of one digest that are unequal.
use Rattle.std.specs.Prelude.{◌≡◌, ◌≢◌, ℕ, ◌<◌, List}
use Rattle.caibx_codec.specs.Listing.{Listing, count_of, slice_of, kind_of}
use Rattle.chunk_store.specs.Digests.{digest_of}

-- some chunk shows two unequal pieces of bytes that have one digest
pub record HasTwins (a b : List ℕ) (l : Listing) : Type 0 where
  pub entry : ℕ
  pub listed : entry < count_of l
  pub differ : slice_of l a entry ≢ slice_of l b entry
  pub named : digest_of (kind_of l) (slice_of l a entry) ≡ digest_of (kind_of l) (slice_of l b entry)
