-- The targets of requests that are paths of chunks (RFC 9112, section 3.2.1). How a chunk's path looks is this
-- project's own.
use Rattle.std.specs.Prelude.{ℕ, List, [], ◌∷◌, drop, ◌==◌, if◌then◌else◌, Option, Some, None, Result, Ok, Err}
use Rattle.std.specs.Str.{str_eq_ignore_ascii_case}
use Rattle.chunk_store.specs.Paths.{path_of}
use Rattle.hex.specs.Hex.{decode_sized}
use Rattle.hex.specs.declared.error.FromHexError.{FromHexError}

-- the id that was read, if this is its path, with digits of either case
abbrev pub id_with_target : List ℕ → Result (List ℕ) FromHexError → Option (List ℕ)
id_with_target path (Ok id) = if str_eq_ignore_ascii_case path (path_of id) then Some id else None
id_with_target path (Err e) = None

-- the id whose path stands behind a `/`: the one that its digits behind the second `/` spell
unfoldable pub id_in : List ℕ → Option (List ℕ)
id_in [] = None
id_in (b ∷ path) = if b == 47 then id_with_target path (decode_sized (drop 5 path) 32) else None
