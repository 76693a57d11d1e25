-- Asks of a store for the chunks that an index lists.
use Rattle.std.specs.Prelude.{◌≡◌, ℕ, ◌<◌, List}
use Rattle.chunk_store.specs.Asks.{Ask, Get, Has, Put}
use Rattle.chunk_store.specs.Digests.{digest_of}
use Rattle.caibx_codec.specs.Listing.{Listing, count_of, id_of, kind_of}

-- for the chunk of one of its entries
pub record IsListedGet (l : Listing) (a : Ask) : Type 0 where
  pub entry : ℕ
  pub listed : entry < count_of l
  pub asked : a ≡ Get (id_of l entry)

-- whether the store has the chunk of one of its entries
pub record IsListedHas (l : Listing) (a : Ask) : Type 0 where
  pub entry : ℕ
  pub listed : entry < count_of l
  pub asked : a ≡ Has (id_of l entry)

-- to take the chunk of one of its entries: bytes that have the digest
pub record IsListedPut (l : Listing) (a : Ask) : Type 0 where
  pub entry : ℕ
  pub listed : entry < count_of l
  pub bytes : List ℕ
  pub asked : a ≡ Put (id_of l entry) bytes
  pub named : digest_of (kind_of l) bytes ≡ id_of l entry
