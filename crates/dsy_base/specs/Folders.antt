-- How a folder changes when a file is put into it.
use Rattle.std.specs.Prelude.{◌≡◌, ℕ, suc, ◌==◌, ◌&&◌, ◌||◌, Bool, IsTrue, length, nat_le, if◌then◌else◌, List, []}
use Rattle.std.specs.Prelude.{◌∷◌, ◌++◌, take, drop, codes, Some, None}
use Rattle.std.specs.List.{list_all}
use Rattle.dsy_base.specs.Maps.{Map, at_name}

-- how many bytes of a name stand before its last component: all up to the last `/`
abbrev pub stem : List ℕ → ℕ
stem [] = 0
stem (c ∷ cs) = if nat_le 1 (stem cs) then suc (stem cs) else if c == 47 then 1 else 0

-- the temporary file of a name: `.tmp-cacnk` before its last component
unfoldable pub temporary_of : List ℕ → List ℕ
temporary_of q = take (stem q) q ++ (codes ".tmp-cacnk" ++ drop (stem q) q)

-- the map once b is put under the name
abbrev pub put_in : Map (List ℕ) → List ℕ → List ℕ → Map (List ℕ)
put_in m q b = at_name (at_name m (temporary_of q) None) q (Some b)

-- a lower-case hexadecimal digit: 0 to 9 or a to f
abbrev pub is_digit : ℕ → Bool
is_digit c = (nat_le 48 c && nat_le c 57) || (nat_le 97 c && nat_le c 102)

-- the path of a chunk file in a store's folder: four digits, `/`, and 64 digits that begin with these four
unfoldable pub IsChunkPath : List ℕ → Type 0
IsChunkPath path = (digits : List ℕ) × (length digits ≡ 64) × IsTrue (list_all is_digit digits)
    × (path ≡ take 4 digits ++ 47 ∷ digits)
