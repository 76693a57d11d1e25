-- The image that a number makes, and a seed that differs from it in the middle. Sizes and offsets are in bytes.
use Rattle.std.specs.Prelude.{ℕ, zero, suc, ◌+◌, ◌*◌, ◌/◌, ◌%◌, ◌^◌, min, List, [], ◌∷◌, ◌++◌, length, take, drop, map}
use Rattle.std.specs.Prelude.{slice_range, bit_xor}
use Rattle.buzhash_cut.specs.Sizes.{Sizes}

-- the next state of the generator: a linear congruence modulo 2^64
abbrev pub next_state : ℕ → ℕ
next_state x = (6364136223846793005 * x + 1442695040888963407) % 2 ^ 64

-- this many bytes after this state: each is the top 8 bits of the next state
unfoldable pub bytes_after : ℕ → ℕ → List ℕ
bytes_after x zero = []
bytes_after x (suc n) = next_state x / 2 ^ 56 ∷ bytes_after (next_state x) n

abbrev pub image_of : ℕ → ℕ → List ℕ
image_of number size = bytes_after number size

-- where the seed of an image of this size begins to differ from it, and where it ends to
abbrev pub turned_start : ℕ → ℕ
turned_start size = size / 2

abbrev pub turned_end : ℕ → ℕ
turned_end size = min (size / 2 + 1048576) size

abbrev pub bits_turned : List ℕ → List ℕ
bits_turned bytes = map (λ c. bit_xor c 255) bytes

-- the seed: the image with all bits of the bytes between turned round
abbrev pub seed_of : List ℕ → List ℕ
seed_of t = take (turned_start (length t)) t
    ++ (bits_turned (slice_range t (turned_start (length t)) (turned_end (length t))) ++ drop (turned_end (length t)) t)

-- the sizes by which both are cut, which are those of `make`
abbrev pub usual_sizes : Sizes
usual_sizes = record { least = 16384; average = 65536; greatest = 262144 }
