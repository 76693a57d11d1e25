-- The store that a folder's files are.
use Rattle.std.specs.Prelude.{◌≡◌, ◌≢◌, ℕ, List, Option, IfSome, is_some}
use Rattle.chunk_store.specs.Paths.{path_of}
use Rattle.dsy_base.specs.Folders.{temporary_of}
use Rattle.dsy_base.specs.Maps.{Map}

-- the bytes under each id: those of the file at its path
abbrev pub chunks : Map (List ℕ) → Map (List ℕ)
chunks files id = files (path_of id)

-- of the files of a folder, where they are told, at most the chunk's own and its temporary one have changed
pub record KeepsOthers (id : List ℕ) (old new : Option (Map (List ℕ))) : Type 0 where
  pub told : is_some new ≡ is_some old
  pub files : IfSome old (λ m. IfSome new (λ n.
      (q : List ℕ) → q ≢ path_of id → q ≢ temporary_of (path_of id) → n q ≡ m q))
