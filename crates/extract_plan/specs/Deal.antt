-- How the work of an extraction is dealt. Entries of an index are alike where id and size are equal, and a want is all
-- entries that are alike: each is fetched once.
use Rattle.std.specs.Prelude.{◌≡◌, ℕ, ◌+◌, ◌*◌, ◌/◌, ◌<◌, ◌==◌, ◌↔◌, List, length, slice_index, min}
use Rattle.std.specs.List.{filter, range_with_len}
use Rattle.caibx_codec.specs.Listing.{Listing, count_of, id_of, size_of, start_of}

abbrev pub AreAlike : Listing → ℕ → ℕ → Type 0
AreAlike l i j = (id_of l i ≡ id_of l j) × (size_of l i ≡ size_of l j)

-- the list has for each entry the number of its want: wants are counted in the order of their first entries
pub record AreWants (l : Listing) (wants : ℕ) (want_of : List ℕ) : Type 0 where
  pub size : length want_of ≡ count_of l
  pub alike : (i j : ℕ) → i < count_of l → j < count_of l →
      (slice_index want_of i ≡ slice_index want_of j) ↔ AreAlike l i j
  pub within : (i : ℕ) → i < count_of l → slice_index want_of i < wants
  pub every : (w : ℕ) → w < wants → (i : ℕ) × (i < count_of l) × (slice_index want_of i ≡ w)
  pub ordered : (i w : ℕ) → i < count_of l → w < slice_index want_of i →
      (j : ℕ) × (j < i) × (slice_index want_of j ≡ w)

-- the entries of want w, in rising order
abbrev pub entries_of : List ℕ → ℕ → List ℕ
entries_of want_of w = filter (λ i. slice_index want_of i == w) (range_with_len 0 (length want_of))

-- into how many shards n entries are cut for this many workers
abbrev pub shards_of : ℕ → ℕ → ℕ
shards_of workers n = min (4 * workers) n

-- the entry with which shard k begins, of n entries; n where k is the number of shards
abbrev pub shard_start : ℕ → ℕ → ℕ → ℕ
shard_start n shards k = k * n / shards

-- the offsets at which the shards of an index end
pub record AreShardEnds (l : Listing) (shards : ℕ) (cuts : List ℕ) : Type 0 where
  pub size : length cuts ≡ shards
  pub ends : (k : ℕ) → k < shards → slice_index cuts k ≡ start_of l (shard_start (count_of l) shards (k + 1))

-- a plan: how many workers and wants there are, the want of each entry, and the offsets at which shards end
pub record Deal : Type 0 where
  pub workers : ℕ
  pub wants : ℕ
  pub want_of : List ℕ
  pub cuts : List ℕ

abbrev pub deal_shards : Deal → ℕ
deal_shards d = shards_of d.workers (length d.want_of)

-- the plan of this index for this many workers
pub record IsPlan (l : Listing) (count : ℕ) (d : Deal) : Type 0 where
  pub workers : d.workers ≡ count
  pub wants : AreWants l d.wants d.want_of
  pub cuts : AreShardEnds l (deal_shards d) d.cuts

-- the entries of want w, and the first of them
abbrev pub of_want : Deal → ℕ → List ℕ
of_want d w = entries_of d.want_of w

abbrev pub first_of : Deal → ℕ → ℕ
first_of d w = slice_index (of_want d w) 0

-- the id of its chunk
abbrev pub want_id : Listing → Deal → ℕ → List ℕ
want_id l d w = id_of l (first_of d w)
