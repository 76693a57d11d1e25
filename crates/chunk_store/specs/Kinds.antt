-- Kinds of digests as numbers, as the type of a folder names them.
use Rattle.std.specs.Prelude.{ℕ, ◌==◌, if◌then◌else◌}
use Rattle.chunk_store.specs.declared.id.DigestKind.{DigestKind}
use Rattle.chunk_store.specs.declared.id.DigestKind.TheVariants as kinds

-- the kind that a number names
abbrev pub kind_named : ℕ → DigestKind
kind_named n = if n == 0 then kinds.Sha512T256 else kinds.Sha256

-- the number that names a kind
abbrev pub kind_number : DigestKind → ℕ
kind_number kinds.Sha512T256 = 0
kind_number kinds.Sha256 = 1
