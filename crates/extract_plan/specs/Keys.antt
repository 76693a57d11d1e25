-- Entries of an index sorted by the ids and the sizes of their chunks, each with a number.
use Rattle.std.specs.Prelude.{◌≡◌, ℕ, ◌<◌, ◌≤◌, ◌==◌, ◌&&◌, Bool, List, length, slice_index, Option}
use Rattle.std.specs.Cmp.Lexicographic.{slice_cmp}
use Rattle.std.specs.List.{All, Contains, find}
use Rattle.std.specs.List.Sorted.{IsSorted}
use Rattle.std.specs.Option.{option_map}
use Rattle.std.specs.Ordering.{nat_cmp, ordering_then}
use Rattle.std.specs.Str.{bytes_eq}
use Rattle.std.specs.declared.cmp.Ordering.{Ordering}
use Rattle.caibx_codec.specs.Listing.{Listing, count_of, id_of, size_of}
use Rattle.extract_plan.specs.Deal.{AreAlike}
use Rattle.extract_plan.specs.declared.keyed.ChunkKey.{ChunkKey}
use Rattle.extract_plan.specs.declared.keyed.Keyed.{Keyed}

-- ids in the order of their bytes, then sizes
abbrev pub key_cmp : ChunkKey → ChunkKey → Ordering
key_cmp x y = ordering_then (slice_cmp nat_cmp x.id.0 y.id.0) (nat_cmp x.size y.size)

-- by their keys, then by their numbers
abbrev pub keyed_cmp : Keyed → Keyed → Ordering
keyed_cmp x y = ordering_then (key_cmp x.key y.key) (nat_cmp x.number y.number)

-- the key has this id and size
abbrev pub has_key : List ℕ → ℕ → Keyed → Bool
has_key id size x = bytes_eq x.key.id.0 id && (x.key.size == size)

-- the number of the first of these that has this id and size
abbrev pub number_of : List Keyed → List ℕ → ℕ → Option ℕ
number_of xs id size = option_map (λ x. x.number) (find (has_key id size) xs)

-- the number of the first that has the key of x
abbrev pub number_with : List Keyed → Keyed → Option ℕ
number_with xs x = number_of xs x.key.id.0 x.key.size

-- x is entry i of the index, with the number that f gives it
pub record IsKeyed (l : Listing) (f : ℕ → ℕ) (i : ℕ) (x : Keyed) : Type 0 where
  pub listed : i < count_of l
  pub id_is : x.key.id.0 ≡ id_of l i
  pub size_is : x.key.size ≡ size_of l i
  pub number : x.number ≡ f i

-- all entries of the index, sorted
pub record AreKeyed (l : Listing) (f : ℕ → ℕ) (xs : List Keyed) : Type 0 where
  pub rise : IsSorted keyed_cmp xs
  pub each : All (λ x. (i : ℕ) × IsKeyed l f i x) xs
  pub every : (i : ℕ) → i < count_of l → (x : Keyed) × Contains xs x × IsKeyed l f i x

-- the list has for each entry the first that is alike
pub record AreFirsts (l : Listing) (firsts : List ℕ) : Type 0 where
  pub size : length firsts ≡ count_of l
  pub low : (i : ℕ) → i < count_of l → slice_index firsts i ≤ i
  pub alike : (i : ℕ) → i < count_of l → AreAlike l (slice_index firsts i) i
  pub same : (i j : ℕ) → i < count_of l → j < count_of l → AreAlike l i j → slice_index firsts i ≡ slice_index firsts j
