-- Where seeds list the chunks of an index. Seeds, entries and wants count from 0.
use Rattle.std.specs.Prelude.{◌≡◌, ℕ, ◌+◌, ◌<◌, ◌≤◌, ◌⊎◌, List, Some, length, slice_index, slice_index_or, slice_range}
use Rattle.std.specs.List.{All, fold, slice_get}
use Rattle.caibx_codec.specs.Listing.{Listing, count_of, id_of, kind_of, size_of, start_of}
use Rattle.chunk_store.specs.declared.id.DigestKind.{DigestKind}
use Rattle.chunk_store.specs.declared.id.DigestKind.TheVariants as kinds
use Rattle.extract_plan.specs.Deal.{Deal, first_of}
use Rattle.extract_plan.specs.declared.seed.SeedPlace.{SeedPlace}
use Rattle.extract_plan.specs.declared.seeds.SeedIndex.TheInside.{Inside}

-- the greatest number of items that all seeds may list together
abbrev pub seed_item_limit : ℕ
seed_item_limit = 8388608

-- how many items the seeds list together
abbrev pub items_of : List Listing → ℕ
items_of ls = fold (λ n l. n + count_of l) 0 ls

-- what contracts see: all places, want by want, and where those of each want begin and the last end
pub record Placed : Type 0 where
  pub starts : List ℕ
  pub items : List SeedPlace

-- what contracts see of the places that a `SeedIndex` keeps
abbrev pub placed_of : Inside → Placed
placed_of x = record { starts = x.starts.items; items = x.items.items }

-- the places of want w
abbrev pub places_at : Placed → ℕ → List SeedPlace
places_at x w = slice_range x.items (slice_index x.starts w) (slice_index x.starts (w + 1))

-- a place by the kind of digest that names its bytes, its seed, its start and its size
abbrev pub place : DigestKind → ℕ → ℕ → ℕ → SeedPlace
place kind seed start size = record { seed = seed; start = start; size = size; kind = kind }

-- place k of a list
abbrev pub nth_place : List SeedPlace → ℕ → SeedPlace
nth_place ps k = slice_index_or ps k (place kinds.Sha512T256 0 0 0)

-- by seed and then by offset
abbrev pub ComesBefore : SeedPlace → SeedPlace → Type 0
ComesBefore p q = (p.seed < q.seed) ⊎ ((p.seed ≡ q.seed) × (p.start < q.start))

-- the place is that of an entry of a seed that has this id and size, and its kind is this one
pub record IsPlace (kind : DigestKind) (seeds : List Listing) (id : List ℕ) (n : ℕ) (p : SeedPlace) : Type 0 where
  pub listing : Listing
  pub seed : slice_get seeds p.seed ≡ Some listing
  pub entry : ℕ
  pub inside : entry < count_of listing
  pub id_is : id_of listing entry ≡ id
  pub size_is : size_of listing entry ≡ n
  pub start : p.start ≡ start_of listing entry
  pub size : p.size ≡ n
  pub kind_is : p.kind ≡ kind

-- the list has every place of the seeds where an entry has this id and size, and no other, by seed and then by offset;
-- each has this kind
pub record ArePlaces (kind : DigestKind) (seeds : List Listing) (id : List ℕ) (n : ℕ)
    (ps : List SeedPlace) : Type 0 where
  pub sound : (k : ℕ) → k < length ps → IsPlace kind seeds id n (nth_place ps k)
  pub complete : (s i : ℕ) (l : Listing) → slice_get seeds s ≡ Some l → i < count_of l →
      id_of l i ≡ id → size_of l i ≡ n →
      (k : ℕ) × (k < length ps) × (nth_place ps k ≡ place kind s (start_of l i) n)
  pub ordered : (j k : ℕ) → j < k → k < length ps → ComesBefore (nth_place ps j) (nth_place ps k)

-- for each want of an index, the places of its chunk, named by the index's kind
pub record IsSeedIndex (l : Listing) (d : Deal) (seeds : List Listing) (x : Placed) : Type 0 where
  pub size : length x.starts ≡ d.wants + 1
  pub places : (i : ℕ) → i < count_of l →
      ArePlaces (kind_of l) seeds (id_of l i) (size_of l i) (places_at x (slice_index d.want_of i))

-- the places are in these seeds, and have this kind and size
abbrev pub PlacesFit : DigestKind → ℕ → ℕ → List SeedPlace → Type 0
PlacesFit kind seeds size places = All (λ p. (p.seed < seeds) × (p.size ≡ size) × (p.kind ≡ kind)) places

-- the places of each want are in these seeds, and have the index's kind and the want's size
pub record PlacesKnown (l : Listing) (d : Deal) (x : Placed) (seeds : ℕ) : Type 0 where
  pub size : length x.starts ≡ d.wants + 1
  pub fit : (w : ℕ) → w < d.wants → PlacesFit (kind_of l) seeds (size_of l (first_of d w)) (places_at x w)

-- what an index of seeds keeps: starts rise, and fit the places
pub record ArePlaced (x : Placed) : Type 0 where
  pub rises : (w : ℕ) → w + 1 < length x.starts → slice_index x.starts w ≤ slice_index x.starts (w + 1)
  pub fits : (w : ℕ) → w < length x.starts → slice_index x.starts w ≤ length x.items
