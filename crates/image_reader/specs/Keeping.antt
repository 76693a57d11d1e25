-- What a bounded list of chunks keeps, as the list of their wants, the most recently used first.
use Rattle.std.specs.Prelude.{ℕ, ◌+◌, ◌==◌, ◌&&◌, Bool, List, [], ◌∷◌, Vec, take, if◌then◌else◌}
use Rattle.std.specs.List.{Contains, fold, list_any}
use Rattle.std.specs.Str.{bytes_eq}
use Rattle.chunk_store.specs.Giving.{IsChunk}
use Rattle.chunk_store.specs.declared.id.DigestKind.{DigestKind}
use Rattle.image_reader.specs.declared.want.Want.{Want}

-- what contracts see of it: which digest names the chunks, how many there may be, and their wants
pub record Kept : Type 0 where
  pub kind : DigestKind
  pub keep : ℕ
  pub wants : List Want

-- the bytes with each want are its chunk
abbrev pub AreChunksOf : {Z : Type 0} → DigestKind → List (Want × Vec ℕ Z) → Type 0
AreChunksOf {Z} kind es = (e : Want × Vec ℕ Z) → Contains es e → IsChunk kind e.0.id.0 e.0.size e.1.items

-- the two want one chunk
abbrev pub is_want : Want → Want → Bool
is_want w x = bytes_eq w.id.0 x.id.0 && (w.size == x.size)

-- the list has a want of this chunk
abbrev pub has_want : List Want → Want → Bool
has_want kept w = list_any (is_want w) kept

-- without the first that wants this chunk
abbrev pub without_want : Want → List Want → List Want
without_want w [] = []
without_want w (x ∷ xs) = if is_want w x then xs else x ∷ without_want w xs

-- a list of wants, and the number of misses that led to it
pub record Stepped : Type 0 where
  pub kept : List Want
  pub misses : ℕ

-- after one want more: one that is kept goes to the front; one that isn't counts as a miss, goes to the front, and what
-- stands past `keep` is dropped
abbrev pub turn : ℕ → Stepped → Want → Stepped
turn keep s w =
    if has_want s.kept w then record { kept = w ∷ without_want w s.kept; misses = s.misses }
    else record { kept = take keep (w ∷ s.kept); misses = s.misses + 1 }

-- after these wants in order
abbrev pub step : ℕ → List Want → List Want → Stepped
step keep kept wants = fold (turn keep) (record { kept = kept; misses = 0 }) wants

-- those of these wants that are missed, in order
abbrev pub missed : ℕ → List Want → List Want → List Want
missed keep kept [] = []
missed keep kept (w ∷ ws) =
    if has_want kept w then missed keep (w ∷ without_want w kept) ws
    else w ∷ missed keep (take keep (w ∷ kept)) ws

-- how many of the wants are missed where nothing is kept first
abbrev pub misses : ℕ → List Want → ℕ
misses keep wants = (step keep [] wants).misses
