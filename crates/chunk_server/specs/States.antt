-- What contracts see of a shelf over a folder.
use Rattle.std.specs.Prelude.{ℕ, Bool, List}
use Rattle.chunk_store.specs.declared.id.DigestKind.{DigestKind}

-- the folder, which digest names its chunks, and whether chunks may be put
pub record Standing (F : Type 0) : Type 0 where
  pub folder : F
  pub kind : DigestKind
  pub writable : Bool

-- what stays as it is while a shelf answers: the digest that names its chunks, whether chunks may be put, and the name
-- that its folder was taken under
pub record ShelfSetting : Type 0 where
  pub kind : DigestKind
  pub writable : Bool
  pub place : List ℕ
