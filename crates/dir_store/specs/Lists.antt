-- Which files of a folder store a list has. m are the folder's files.
use Rattle.std.specs.Prelude.{◌≡◌, ℕ, Bool, ◌&&◌, List, map, is_some}
use Rattle.std.specs.Cmp.Lexicographic.{slice_cmp}
use Rattle.std.specs.List.Sorted.{IsStrictlySortedBy}
use Rattle.std.specs.Ordering.{nat_cmp}
use Rattle.std.specs.Set.{is_member}
use Rattle.std.specs.Str.{bytes_eq}
use Rattle.chunk_store.specs.Folders.{chunks}
use Rattle.chunk_store.specs.Digests.{IsId}
use Rattle.chunk_store.specs.declared.id.ChunkId.{ChunkId}
use Rattle.dsy_base.specs.Maps.{Map, is_listed}

-- the ids of all chunk files, each once, in the order of their bytes
pub record IsIdsOf (m : Map (List ℕ)) (ids : List ChunkId) : Type 0 where
  pub sorted : IsStrictlySortedBy (slice_cmp nat_cmp) (map (λ id. id.0) ids)
  pub all : (q : List ℕ) → IsId q → is_member bytes_eq (map (λ id. id.0) ids) q ≡ is_some (chunks m q)

-- the names with this property that a folder lists, each once, in the order of their bytes
pub record IsNamesWhere (property : List ℕ → Bool) (m : Map (List ℕ)) (names : List (List ℕ)) : Type 0 where
  pub sorted : IsStrictlySortedBy (slice_cmp nat_cmp) names
  pub all : (q : List ℕ) → is_member bytes_eq names q ≡ (property q && (is_listed q && is_some (m q)))
