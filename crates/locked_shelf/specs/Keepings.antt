-- What a shelf behind a lock holds: a folder that began with named files, and into which only right chunks were put.
use Rattle.std.specs.Prelude.{◌≡◌, ℕ, ◌≤◌, ◌⊎◌, Bool, List, length, Option, Some, None, IsTrue}
use Rattle.chunk_store.specs.Folders.{chunks}
use Rattle.chunk_store.specs.Digests.{digest_of}
use Rattle.chunk_store.specs.declared.id.DigestKind.{DigestKind}
use Rattle.dir_store.specs.Names.{is_stranger}
use Rattle.dsy_base.specs.Maps.{Map}
use Rattle.caibx_fields.specs.Limits.{size_limit}

-- what is known of a shelf without its lock: which digest names its chunks, and whether chunks may be put
pub record LockedRules : Type 0 where
  pub kind : DigestKind
  pub writable : Bool

-- bytes that may be put under the id
pub record IsPuttable (kind : DigestKind) (id b : List ℕ) : Type 0 where
  pub named : digest_of kind b ≡ id
  pub few : length b ≤ size_limit

-- what stands under an id is what stood there at first, or bytes that may be put there
abbrev pub HoldsFor : DigestKind → List ℕ → Option (List ℕ) → Option (List ℕ) → Type 0
HoldsFor kind id first now = (now ≡ first) ⊎ ((b : List ℕ) × (now ≡ Some b) × IsPuttable kind id b)

-- the files are those of the beginning, with right chunks added or put in the place of others. Temporary files aside
pub record KeepsChunks (kind : DigestKind) (first now : Map (List ℕ)) : Type 0 where
  pub ids : (id : List ℕ) → HoldsFor kind id (chunks first id) (chunks now id)
  pub strangers : (q : List ℕ) → IsTrue (is_stranger q) → now q ≡ first q

-- and they are told
abbrev pub KeepsOpening : DigestKind → Map (List ℕ) → Option (Map (List ℕ)) → Type 0
KeepsOpening kind first None = ⊥
KeepsOpening kind first (Some now) = KeepsChunks kind first now
