-- The limits of an index file, and the flag of its digest.
use Rattle.std.specs.Prelude.{ℕ, ◌+◌, ◌*◌}

-- the flag of indexes whose ids are SHA-512/256; without it they are SHA-256
abbrev pub digest_flag : ℕ
digest_flag = 0x2000000000000000

-- the greatest size that a chunk may have, and the greatest number of chunks
abbrev pub size_limit : ℕ
size_limit = 67108864

abbrev pub item_limit : ℕ
item_limit = 4194304

-- the greatest number of bytes of a file: 104, and 40 for each chunk
abbrev pub file_limit : ℕ
file_limit = 104 + 40 * item_limit
