-- Which entries a range of an image covers, and what they want. The range is the n bytes from the offset `at` on.
use Rattle.std.specs.Prelude.{◌≡◌, ℕ, ◌+◌, ◌<◌, List, Bool, map, max, min, nat_lt}
use Rattle.std.specs.List.{filter, range_with_len}
use Rattle.caibx_codec.specs.Listing.{Listing, count_of, start_of, end_of, id_of, size_of}
use Rattle.chunk_store.specs.Asks.{Ask, Get}
use Rattle.image_reader.specs.declared.want.Want.{Want}

-- some byte of the range is one of entry i
abbrev pub covers_entry : Listing → ℕ → ℕ → ℕ → Bool
covers_entry l at n i = nat_lt (max at (start_of l i)) (min (at + n) (end_of l i))

-- the range covers entry i, which is listed
pub record IsCovered (l : Listing) (at n i : ℕ) : Type 0 where
  pub listed : i < count_of l
  pub covers : max at (start_of l i) < min (at + n) (end_of l i)

-- the chunk of entry i
abbrev pub want_of : Listing → ℕ → Want
want_of l i = record { id = record { 0 = id_of l i }; size = size_of l i }

-- the chunks of the covered ones among the first k entries, in order
abbrev pub wants_to : Listing → ℕ → ℕ → ℕ → List Want
wants_to l at n k = map (want_of l) (filter (covers_entry l at n) (range_with_len 0 k))

-- the chunks of all covered entries
abbrev pub wants_of : Listing → ℕ → ℕ → List Want
wants_of l at n = wants_to l at n (count_of l)

-- a store is asked for the chunk of a covered entry
pub record IsCoveredGet (l : Listing) (at n : ℕ) (a : Ask) : Type 0 where
  pub entry : ℕ
  pub covered : IsCovered l at n entry
  pub asked : a ≡ Get (id_of l entry)
