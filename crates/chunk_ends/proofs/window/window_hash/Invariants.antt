use Rattle.std.proofs.Common.{◌≡◌, fold, map, bit_xor}
use Rattle.std.specs.List.{range_with_len}
use Rattle.chunk_ends.specs.Window.{turned}
use Rattle.chunk_ends.proofs.window.window_hash.Given as goal

-- the hash of the first i bytes
abbrev pub invariant-loop-i : goal.invariant-loop-i
invariant-loop-i l = l.hash ≡ fold bit_xor 0 (map (turned l.window) (range_with_len 0 l.i))
