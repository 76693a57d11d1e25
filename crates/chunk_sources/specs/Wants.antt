-- Chunks that are looked for, and the entries that are listed with them.
use Rattle.std.specs.Prelude.{◌≡◌, ℕ, ◌<◌, List, length, slice_index}
use Rattle.caibx_codec.specs.Listing.{Listing, count_of, id_of, kind_of, size_of}
use Rattle.chunk_sources.specs.declared.obtain.Sought.{Sought}
use Rattle.chunk_store.specs.declared.id.DigestKind.{DigestKind}
use Rattle.extract_plan.specs.Deal.{Deal, first_of, of_want, want_id}
use Rattle.extract_plan.specs.Places.{Placed, places_at}
use Rattle.extract_plan.specs.declared.seed.SeedPlace.{SeedPlace}

-- what a run is to make right: the entries of an index, by its plan, and where seeds list their chunks
pub record Task : Type 0 where
  pub listing : Listing
  pub plan : Deal
  pub places : Placed

-- a chunk that is looked for: which digest names it, its id and its size, the entries that have it, and where seeds
-- list it
pub record Wanted : Type 0 where
  pub kind : DigestKind
  pub id : List ℕ
  pub size : ℕ
  pub entries : List ℕ
  pub places : List SeedPlace

-- the chunk of want w
abbrev pub want_chunk : Task → ℕ → Wanted
want_chunk t w = record {
  kind = kind_of t.listing;
  id = want_id t.listing t.plan w;
  size = size_of t.listing (first_of t.plan w);
  entries = of_want t.plan w;
  places = places_at t.places w;
}

-- what is sought, as a chunk of this size
abbrev pub sought_chunk : DigestKind → Sought → ℕ → Wanted
sought_chunk kind q size =
    record { kind = kind; id = q.id.0; size = size; entries = q.entries.now; places = q.places.now }

-- entry i is listed with this id and size
pub record IsOf (l : Listing) (id : List ℕ) (size i : ℕ) : Type 0 where
  pub listed : i < count_of l
  pub id_is : id_of l i ≡ id
  pub size_is : size_of l i ≡ size

-- so are all of these entries
abbrev pub AllOf : Listing → List ℕ → ℕ → List ℕ → Type 0
AllOf l id size entries = (k : ℕ) → k < length entries → IsOf l id size (slice_index entries k)

-- entry i is one of these
abbrev pub IsAmong : List ℕ → ℕ → Type 0
IsAmong entries i = (k : ℕ) × (k < length entries) × (slice_index entries k ≡ i)
