-- The entries of an index that one part of a target holds. Entries count from 0, offsets are bytes from 0.
use Rattle.std.specs.Prelude.{◌≡◌, ℕ, ◌-◌, ◌<◌, ◌≤◌, List, length, slice_range}
use Rattle.caibx_codec.specs.Listing.{Listing, Rules, count_of, end_of, id_of, kind_of, size_of, start_of}
use Rattle.chunk_store.specs.Digests.{digest_of}
use Rattle.dsy_base.specs.Bytes.{written}

-- the entries from `from` up to `to` of an index. Their bytes lie one after the other, from offset 0 on
pub record Extent : Type 0 where
  pub listing : Listing
  pub from : ℕ
  pub to : ℕ

-- all entries
abbrev pub whole : Listing → Extent
whole l = record { listing = l; from = 0; to = count_of l }

-- entry i is one of them
pub record IsIn (x : Extent) (i : ℕ) : Type 0 where
  pub from : x.from ≤ i
  pub to : i < x.to

-- they are entries of an index that can be used
pub record IsValidExtent (x : Extent) : Type 0 where
  pub valid : Rules x.listing
  pub within : x.to ≤ count_of x.listing
  pub some : x.from ≤ x.to

-- where entry i begins and ends
abbrev pub begin_in : Extent → ℕ → ℕ
begin_in x i = start_of x.listing i - start_of x.listing x.from

-- where entry i ends in the part
abbrev pub end_in : Extent → ℕ → ℕ
end_in x i = end_of x.listing i - start_of x.listing x.from

-- the number of bytes of all of them
abbrev pub length_in : Extent → ℕ
length_in x = begin_in x x.to

-- the bytes of t that entry i covers
abbrev pub slice_in : Extent → List ℕ → ℕ → List ℕ
slice_in x t i = slice_range t (begin_in x i) (end_in x i)

-- they have the listed digest
abbrev pub IsRightIn : Extent → List ℕ → ℕ → Type 0
IsRightIn x t i = digest_of (kind_of x.listing) (slice_in x t i) ≡ id_of x.listing i

-- t with b written over the range of entry i
abbrev pub put_in_extent : Extent → ℕ → List ℕ → List ℕ → List ℕ
put_in_extent x i b t = written t (begin_in x i) b

-- b is the chunk of entry i
pub record IsChunkOf (x : Extent) (i : ℕ) (b : List ℕ) : Type 0 where
  pub size : length b ≡ size_of x.listing i
  pub named : digest_of (kind_of x.listing) b ≡ id_of x.listing i
