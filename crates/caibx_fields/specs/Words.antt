-- The numbers of an index file: words of 64 bits, low byte first.
use Rattle.std.specs.Prelude.{ℕ, List}
use Rattle.std.specs.Int.{w64, to_le_bytes}
use Rattle.std.specs.List.{flat_map}

abbrev pub word : ℕ → List ℕ
word n = to_le_bytes w64 n

abbrev pub words : List ℕ → List ℕ
words ns = flat_map word ns
