-- The hash of a window of 48 bytes.
use Rattle.std.specs.Prelude.{ℕ, ◌-◌, List, fold, map, slice_index, bit_xor}
use Rattle.std.specs.Int.{w32, rotate_left}
use Rattle.std.specs.List.{range_with_len}
use Rattle.chunk_ends.specs.Table.{table}

-- what byte i adds: its word in the table, rotated left by 47 - i
abbrev pub turned : List ℕ → ℕ → ℕ
turned window i = rotate_left w32 (slice_index table (slice_index window i)) (47 - i)

-- the exclusive or of what the bytes add
unfoldable pub window_hash : List ℕ → ℕ
window_hash window = fold bit_xor 0 (map (turned window) (range_with_len 0 48))

-- the hash of a window that has moved on by one byte, from the hash of the window before
unfoldable pub roll_of : ℕ → ℕ → ℕ → ℕ
roll_of hash leaving entering =
    bit_xor (rotate_left w32 hash 1)
    (bit_xor (rotate_left w32 (slice_index table leaving) 16) (slice_index table entering))
