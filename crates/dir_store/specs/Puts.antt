-- How a folder's files change when a file is written or removed.
use Rattle.std.specs.Prelude.{◌≡◌, ℕ, List, Option, None}
use Rattle.std.specs.Option.{option_map}
use Rattle.chunk_store.specs.Paths.{path_of}
use Rattle.dsy_base.specs.Folders.{temporary_of, put_in}
use Rattle.dsy_base.specs.Maps.{Map, at_name}

-- the files once b is put under the id
abbrev pub PutsAtPath : List ℕ → List ℕ → Option (Map (List ℕ)) → Option (Map (List ℕ)) → Type 0
PutsAtPath id b old new = new ≡ option_map (λ m. put_in m (path_of id) b) old

-- the files are as before but for the id's temporary file
abbrev pub LeavesTemporary : List ℕ → Option (Map (List ℕ)) → Option (Map (List ℕ)) → Type 0
LeavesTemporary id old new =
    (x : Option (List ℕ)) × (new ≡ option_map (λ m. at_name m (temporary_of (path_of id)) x) old)

-- the files without what stood under the name
abbrev pub Removes : List ℕ → Option (Map (List ℕ)) → Option (Map (List ℕ)) → Type 0
Removes name old new = new ≡ option_map (λ m. at_name m name None) old
