-- What contracts see of a folder of indexes that answers requests.
use Rattle.std.specs.Prelude.{ℕ, Bool, List}

-- the folder, and whether indexes may be put
pub record IndexStanding (F : Type 0) : Type 0 where
  pub folder : F
  pub writable : Bool

-- what stays as it is while it answers: whether indexes may be put, and the name that the folder was taken under
pub record IndexSetting : Type 0 where
  pub writable : Bool
  pub place : List ℕ
