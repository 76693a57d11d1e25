-- What contracts see of a chunk's file that was read.
use Rattle.std.specs.Prelude.{ℕ, List, Result}
use Rattle.chunk_store.specs.declared.store.GetFault.{GetFault}

-- the bytes of the buffer, and what the reading has answered
pub record FileRead : Type 0 where
  pub bytes : List ℕ
  pub outcome : Result ℕ GetFault
