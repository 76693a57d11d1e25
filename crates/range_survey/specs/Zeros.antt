-- Names of runs of zeros. Sizes are in bytes, offsets are bytes from 0.
use Rattle.std.specs.Prelude.{◌≡◌, ℕ, ◌<◌, ◌≤◌, List, replicate, Option, IsSome, IfSome}
use Rattle.std.specs.Map.{lookup}
use Rattle.std.specs.BTreeMap.{is_at}
use Rattle.std.specs.Ordering.{nat_cmp}
use Rattle.caibx_codec.specs.Listing.{Listing, count_of, kind_of, start_of, size_of}
use Rattle.chunk_store.specs.Digests.{digest_of}
use Rattle.chunk_store.specs.declared.id.ChunkId.{ChunkId}
use Rattle.chunk_store.specs.declared.id.DigestKind.{DigestKind}

-- what contracts see of a table: which digest it has of runs of zeros, and these by the sizes
pub record ZeroTable : Type 0 where
  pub kind : DigestKind
  pub digests : List (ℕ × ChunkId)

-- what contracts see of a hasher that was fed zeros: its kind, and their number
pub record ZerosFed : Type 0 where
  pub kind : DigestKind
  pub count : ℕ

-- the digest of this many zeros, if the table has it
abbrev pub zeros_at : List (ℕ × ChunkId) → ℕ → Option ChunkId
zeros_at table n = lookup (is_at (nat_cmp n)) table

-- each digest in the table is that of this kind, of as many zeros as it is listed for
abbrev pub AllDigests : DigestKind → List (ℕ × ChunkId) → Type 0
AllDigests kind table = (n : ℕ) → IfSome (zeros_at table n) (λ id. id.0 ≡ digest_of kind (replicate n 0))

-- n is the size of an entry that begins at or past `old`
abbrev pub IsPastSize : Listing → ℕ → ℕ → Type 0
IsPastSize l old n = (i : ℕ) × (i < count_of l) × (old ≤ start_of l i) × (size_of l i ≡ n)

-- the table is of the index's kind, and has the size of each entry that begins at or past `old`
pub record Covers (table : ZeroTable) (l : Listing) (old : ℕ) : Type 0 where
  pub kind_is : table.kind ≡ kind_of l
  pub sizes : (i : ℕ) → i < count_of l → old ≤ start_of l i → IsSome (zeros_at table.digests (size_of l i))

-- entry i begins at or past `old`, and the table, which is of the index's kind, has its size
pub record IsTabled (table : ZeroTable) (l : Listing) (old i : ℕ) : Type 0 where
  pub kind_is : table.kind ≡ kind_of l
  pub past : old ≤ start_of l i
  pub known : IsSome (zeros_at table.digests (size_of l i))
