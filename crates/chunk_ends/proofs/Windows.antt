-- The hash of a window, byte by byte.
use Rattle.std.proofs.Common.{◌≡◌, ℕ, ◌+◌, List, [], ◌∷◌, ◌++◌, fold, map, bit_xor, refl, arith}
use Rattle.std.specs.List.{range_with_len}
use Rattle.std.proofs.lemmas.List.FromFn.{map-range_with_len_more}
use Rattle.std.proofs.lemmas.List.Sums.{fold-append}
use Rattle.chunk_ends.specs.Window.{turned}

-- one byte more
pub hash_more : (window : List ℕ) (i hash more : ℕ) → hash ≡ fold bit_xor 0 (map (turned window) (range_with_len 0 i)) → more ≡ turned window i
    → bit_xor hash more ≡ fold bit_xor 0 (map (turned window) (range_with_len 0 (i + 1)))
hash_more window i hash more h is =
    let before = map (turned window) (range_with_len 0 i) in
    let longer : map (turned window) (range_with_len 0 (i + 1)) ≡ before ++ turned window i ∷ [] = map-range_with_len_more (turned window) 0 i i (omega arith) in
    rw (longer, fold-append bit_xor 0 before (turned window i ∷ []), h, is) refl
