-- Cutting an image from a place on, as a view gives it in pieces.
use Rattle.std.specs.Prelude.{◌≡◌, ℕ, ◌+◌, ◌-◌, ◌<◌, ◌≤◌, List, min, slice_range, vec_len}
use Rattle.chunk_ends.specs.Feeding.{WasFed}
use Rattle.buzhash_cut.specs.declared.slicer.Slicer.{Slicer}

-- how many bytes of an image are read at once
abbrev pub piece_size : ℕ
piece_size = 65536

-- where the chunk begins that is cut next
abbrev pub begun_by : Slicer → ℕ
begun_by c = c.start + c.cutter.begun

-- they cut by the same sizes, and name by the same digest
abbrev pub CutsAlike : Slicer → Slicer → Type 0
CutsAlike old new = (new.kind ≡ old.kind) × (new.cutter.sizes ≡ old.cutter.sizes)

-- the cutter was given as many bytes as lie between `start` and `at`, as many as are kept of the open chunk lie between
-- where it begins and `at`, and there is room for what follows
pub record IsWithin (c : Slicer) (size : ℕ) : Type 0 where
  pub given : c.start + c.cutter.at ≡ c.at
  pub kept : begun_by c + c.kept ≡ c.at
  pub left : (c.from ≤ c.upto) × (c.upto ≤ vec_len c.piece) × (c.at + (c.upto - c.from) ≤ size)
  pub piece : 0 < vec_len c.piece
  pub chunk : min size c.cutter.sizes.greatest ≤ vec_len c.chunk

-- the bytes of the image from `begun` to `end` stand at the front of the buffer for a chunk
abbrev pub HasChunkOf : Slicer → List ℕ → ℕ → ℕ → Type 0
HasChunkOf c image begun end = slice_range c.chunk.items 0 (end - begun) ≡ slice_range image begun end

-- these bytes were the image's, those in the piece are, and those of the open chunk are kept
pub record HasRead (c : Slicer) (image : List ℕ) : Type 0 where
  pub fed : WasFed c.cutter (slice_range image c.start c.at)
  pub left : slice_range c.piece.items c.from c.upto ≡ slice_range image c.at (c.at + (c.upto - c.from))
  pub chunk : HasChunkOf c image (begun_by c) c.at
