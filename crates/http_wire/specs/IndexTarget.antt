-- The targets of requests that are paths of indexes (RFC 9112, section 3.2.1). How an index's path looks is this
-- project's own. No such name leads out of a folder: it has no `/` in it and doesn't begin with a point.
use Rattle.std.specs.Prelude.{ℕ, List, [], ◌∷◌, length, ◌==◌, ◌&&◌, ◌||◌, not, Bool, nat_eq, nat_lt, nat_le, codes}
use Rattle.std.specs.Prelude.{if◌then◌else◌, Option, Some, None}
use Rattle.std.specs.Char.{is_ascii_alphanumeric}
use Rattle.std.specs.List.{list_all, starts_with, ends_with}

-- what the name of an index ends in
abbrev pub ending : List ℕ
ending = codes ".caibx"

-- the bytes that the name of an index may have: letters, digits, `.`, `_` and `-`
unfoldable pub is_name_byte : ℕ → Bool
is_name_byte b = is_ascii_alphanumeric b || b == 46 || b == 95 || b == 45

-- the name of an index: 1 to 128 such bytes, not beginning with `.`, ending in `.caibx` with more before it
unfoldable pub is_index_name : List ℕ → Bool
is_index_name q =
    nat_lt (length ending) (length q) && nat_le (length q) 128 && not (starts_with nat_eq q (codes "."))
    && ends_with nat_eq q ending && list_all is_name_byte q

-- the name, if it is one of an index
abbrev pub index_name : List ℕ → Option (List ℕ)
index_name q = if is_index_name q then Some q else None

-- the name behind a `/`
unfoldable pub name_in_target : List ℕ → Option (List ℕ)
name_in_target [] = None
name_in_target (b ∷ name) = if b == 47 then index_name name else None
