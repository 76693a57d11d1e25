-- Places found so far, seed by seed and entry by entry, with the numbers of their wants.
use Rattle.std.specs.Prelude.{◌≡◌, ℕ, ◌+◌, ◌<◌, ◌≤◌, ◌⊎◌, List, Option, Some, length, take, slice_index}
use Rattle.std.specs.List.{slice_get}
use Rattle.caibx_codec.specs.Listing.{Listing, count_of, id_of, size_of, start_of}
use Rattle.chunk_store.specs.declared.id.DigestKind.{DigestKind}
use Rattle.extract_plan.specs.Places.{ComesBefore, items_of, place, nth_place}
use Rattle.extract_plan.specs.declared.seed.SeedPlace.{SeedPlace}

-- the number of each id and size that an index lists is its want, and nothing else has a number
pub record AreNumbered (l : Listing) (n : ℕ) (number : List ℕ → ℕ → Option ℕ) (want_of : List ℕ) : Type 0 where
  pub known : (i : ℕ) → i < n → number (id_of l i) (size_of l i) ≡ Some (slice_index want_of i)
  pub listed : (q : List ℕ) (s v : ℕ) → number q s ≡ Some v → (i : ℕ) × (i < n) × (id_of l i ≡ q) × (size_of l i ≡ s)

-- entry j of seed t comes before entry n of seed s
abbrev pub IsDone : ℕ → ℕ → ℕ → ℕ → Type 0
IsDone s n t j = (t < s) ⊎ ((t ≡ s) × (j < n))

-- the place is that of an entry before entry n of seed s, this is the number of its id and size, and its kind is this
-- one
pub record IsFoundPlace (kind : DigestKind) (number : List ℕ → ℕ → Option ℕ) (seeds : List Listing) (s n w : ℕ)
    (p : SeedPlace) : Type 0 where
  pub listing : Listing
  pub seed : slice_get seeds p.seed ≡ Some listing
  pub entry : ℕ
  pub inside : entry < count_of listing
  pub done : IsDone s n p.seed entry
  pub named : number (id_of listing entry) (size_of listing entry) ≡ Some w
  pub start : p.start ≡ start_of listing entry
  pub size : p.size ≡ size_of listing entry
  pub kind_is : p.kind ≡ kind

-- the places of all entries before entry n of seed s that have a number, in their order, and these numbers
pub record AreFound (kind : DigestKind) (number : List ℕ → ℕ → Option ℕ) (seeds : List Listing) (s n : ℕ)
    (ws : List ℕ) (ps : List SeedPlace) : Type 0 where
  pub size : length ws ≡ length ps
  pub few : length ps ≤ items_of (take s seeds) + n
  pub sound : (k : ℕ) → k < length ps → IsFoundPlace kind number seeds s n (slice_index ws k) (nth_place ps k)
  pub complete : (t j w : ℕ) (m : Listing) → slice_get seeds t ≡ Some m → IsDone s n t j → j < count_of m →
      number (id_of m j) (size_of m j) ≡ Some w →
      (k : ℕ) × (k < length ps) × (slice_index ws k ≡ w) × (nth_place ps k ≡ place kind t (start_of m j) (size_of m j))
  pub ordered : (j k : ℕ) → j < k → k < length ps → ComesBefore (nth_place ps j) (nth_place ps k)
