-- Cutting an image that comes in pieces.
use Rattle.std.specs.Prelude.{◌≡◌, ℕ, ◌+◌, ◌-◌, ◌<◌, ◌≤◌, List, [], ◌∷◌, ◌++◌, length, take, drop, true, false, Option}
use Rattle.std.specs.Prelude.{Some, None}
use Rattle.chunk_ends.specs.Cuts.{closes, window_of, IsCut}
use Rattle.chunk_ends.specs.Sizes.{Sizes}

-- what a cutter keeps: how many bytes it was given, where the last end is, and the last bytes since
pub record CutterKept : Type 0 where
  pub sizes : Sizes
  pub at : ℕ
  pub begun : ℕ
  pub last : List ℕ

-- a chunk ends n bytes into the piece and not before. Its beginning, before the piece, is `chunk`
pub record EndsFirst (s : Sizes) (chunk piece : List ℕ) (n : ℕ) : Type 0 where
  pub some : 1 ≤ n
  pub inside : n ≤ length piece
  pub closed : closes s (chunk ++ take n piece) ≡ true
  pub least : (k : ℕ) → 1 ≤ k → k < n → closes s (chunk ++ take k piece) ≡ false

-- where the chunk ends in the piece
abbrev pub EndIn : Sizes → List ℕ → List ℕ → Option ℕ → Type 0
EndIn s chunk piece None = (k : ℕ) → 1 ≤ k → k ≤ length piece → closes s (chunk ++ take k piece) ≡ false
EndIn s chunk piece (Some n) = EndsFirst s chunk piece n

-- from `start` on the image is cut at these ends, each chunk is closed, and the last ends at `end`
abbrev pub AreClosed : Sizes → List ℕ → ℕ → List ℕ → ℕ → Type 0
AreClosed s image start [] end = start ≡ end
AreClosed s image start (e ∷ ends) end =
    (n : ℕ) × IsCut s (drop start image) n × (closes s (take n (drop start image)) ≡ true) × (e ≡ start + n)
    × AreClosed s image e ends end

-- the cutter was given these bytes, from the image's first on: its last end is reached by whole chunks, none ends after
-- it, and the last bytes since are the window
pub record WasFed (c : CutterKept) (image : List ℕ) : Type 0 where
  pub at : c.at ≡ length image
  pub reached : (ends : List ℕ) × AreClosed c.sizes image 0 ends c.begun
  pub begun : c.begun ≤ length image
  pub last : c.last ≡ window_of (drop c.begun image)
  pub unended : (k : ℕ) → 1 ≤ k → k ≤ length image - c.begun → closes c.sizes (take k (drop c.begun image)) ≡ false
