-- When stores give a chunk, and what they lack where they don't. A store is the map from ids to bytes that it holds.
use Rattle.std.specs.Prelude.{◌≡◌, ◌≢◌, ℕ, ◌<◌, ◌≤◌, List, length, Option, Some}
use Rattle.chunk_store.specs.Digests.{digest_of}
use Rattle.chunk_store.specs.declared.id.DigestKind.{DigestKind}
use Rattle.chunk_store.specs.declared.shows.Shows.{Shows}
use Rattle.chunk_store.specs.declared.shows.Shows.TheVariants as shows

-- the bytes are the chunk of this id and size
pub record IsChunk (kind : DigestKind) (id : List ℕ) (size : ℕ) (b : List ℕ) : Type 0 where
  pub named : digest_of kind b ≡ id
  pub sized : length b ≡ size

-- what is held gives the chunk
abbrev pub GivesChunk : DigestKind → List ℕ → ℕ → Option (List ℕ) → Type 0
GivesChunk kind id size held = (b : List ℕ) × (held ≡ Some b) × IsChunk kind id size b

-- what bytes show that aren't the chunk: more bytes than were asked for, or else another digest, or else another length
abbrev pub Shown : DigestKind → List ℕ → ℕ → List ℕ → Shows → Type 0
Shown kind id size b shows.Longer = size < length b
Shown kind id size b (shows.Digest x) = (length b ≤ size) × (x.0 ≡ digest_of kind b) × (x.0 ≢ id)
Shown kind id size b (shows.Length n) = (length b ≤ size) × (digest_of kind b ≡ id) × (n ≡ length b) × (n ≢ size)
