-- What a file of a folder store is, by its name.
use Rattle.std.specs.Prelude.{ℕ, ◌==◌, ◌&&◌, Bool, not, List, length, drop, codes, nat_eq, if◌then◌else◌, is_none}
use Rattle.std.specs.Prelude.{Option, Some, None, Result, Ok, Err}
use Rattle.std.specs.List.{after_last, starts_with}
use Rattle.std.specs.Str.{bytes_eq}
use Rattle.chunk_store.specs.Paths.{path_of}
use Rattle.hex.specs.Hex.{decode_of}
use Rattle.hex.specs.declared.error.FromHexError.{FromHexError}

-- the id that was read, if it has 32 bytes and this path
abbrev pub id_with_path : List ℕ → Result (List ℕ) FromHexError → Option (List ℕ)
id_with_path q (Ok id) = if length id == 32 && bytes_eq (path_of id) q then Some id else None
id_with_path q (Err e) = None

-- the id whose chunk file has this name: the one that the digits behind `/` spell, where the name is its path
abbrev pub id_at_path : List ℕ → Option (List ℕ)
id_at_path q = id_with_path q (decode_of (drop 5 q))

-- a temporary file's name: its last component begins `.tmp-cacnk`
abbrev pub is_temporary : List ℕ → Bool
is_temporary q = starts_with nat_eq (after_last (λ c. c == 47) q) (codes ".tmp-cacnk")

-- neither a temporary file's name nor a chunk file's
abbrev pub is_stranger : List ℕ → Bool
is_stranger q = not (is_temporary q) && is_none (id_at_path q)
