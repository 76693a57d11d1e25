-- Where an image is cut. Ends are offsets in bytes from the image's first byte on, and exclusive.
use Rattle.std.specs.Prelude.{◌≡◌, ℕ, ◌+◌, ◌-◌, ◌%◌, ◌<◌, ◌≤◌, ◌==◌, ◌||◌, ◌&&◌, ◌⊎◌, Bool, true, false, List, [], ◌∷◌}
use Rattle.std.specs.Prelude.{length, take, drop, nat_le}
use Rattle.chunk_ends.specs.Sizes.{Sizes, discriminator_of}
use Rattle.chunk_ends.specs.Window.{window_hash}

-- the last 48 bytes of a chunk
abbrev pub window_of : List ℕ → List ℕ
window_of chunk = drop (length chunk - 48) chunk

-- whether the hash of the chunk's last 48 bytes closes it, by this divisor
abbrev pub is_closing : ℕ → List ℕ → Bool
is_closing divisor chunk = window_hash (window_of chunk) % divisor == divisor - 1

-- whether a chunk ends with the last of these bytes
unfoldable pub closes : Sizes → List ℕ → Bool
closes s chunk =
    (length chunk == s.greatest) || (nat_le s.least (length chunk) && is_closing (discriminator_of s.average) chunk)

-- the size of the first chunk of the rest: the least at which it closes, or else all of the rest
pub record IsCut (s : Sizes) (rest : List ℕ) (n : ℕ) : Type 0 where
  pub some : 1 ≤ n
  pub inside : n ≤ length rest
  pub least : (k : ℕ) → 1 ≤ k → k < n → closes s (take k rest) ≡ false
  pub closed : (closes s (take n rest) ≡ true) ⊎ (n ≡ length rest)

-- the ends of the chunks from `start` on: the image is cut there, and then where that chunk ends, until nothing is left
abbrev pub AreCuts : Sizes → List ℕ → ℕ → List ℕ → Type 0
AreCuts s image start [] = start ≡ length image
AreCuts s image start (end ∷ ends) =
    (n : ℕ) × IsCut s (drop start image) n × (end ≡ start + n) × AreCuts s image end ends

-- no beginning of these sizes, from `from` up to but without `end`, has last bytes that close it
abbrev pub NoneCloses : ℕ → List ℕ → ℕ → ℕ → Type 0
NoneCloses divisor bytes from end = (k : ℕ) → from ≤ k → k < end → is_closing divisor (take k bytes) ≡ false

-- n is the size of the shortest such beginning whose last bytes close it
pub record ClosesFirst (divisor : ℕ) (bytes : List ℕ) (from to n : ℕ) : Type 0 where
  pub begun : from ≤ n
  pub inside : n ≤ to
  pub closing : is_closing divisor (take n bytes) ≡ true
  pub none : NoneCloses divisor bytes from n
