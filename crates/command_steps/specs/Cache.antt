-- The folder of a cache, which is taken to be written and given back. A cache is named by its folder; or there is none.
use Rattle.std.specs.Prelude.{◌≡◌, ℕ, List, [], ◌∷◌, Option, Some, None, IfSome, IsSome, Ok, Err}
use Rattle.std.specs.Option.{option_map}
use Rattle.cache_store.specs.Shelves.{Shelf}
use Rattle.command_steps.specs.Stores.{NotReached}
use Rattle.command_steps.specs.Uses.{Uses, folders_among}
use Rattle.command_worlds.specs.Worlds.{Reads, Step}
use Rattle.command_words.specs.declared.command.Location.{Location}
use Rattle.dsy_base.specs.Disk.{Disk, GivesFolder}
use Rattle.dsy_base.specs.Maps.{Map, at_name}

-- the folders, with that of a cache that was taken in its place again
abbrev pub folders_with : Option Shelf → Option (Map (Map (List ℕ))) → Option (Map (Map (List ℕ)))
folders_with None folders = folders
folders_with (Some s) folders = option_map (λ m. at_name m s.place s.files) folders

-- the disk with it. While a cache is used, its folder counts as there
abbrev pub with_cache : Option Shelf → Disk → Disk
with_cache cache d = record {
  files = d.files;
  folders = folders_with cache d.folders;
  file_counts = d.file_counts;
  folder_counts = d.folder_counts;
}

-- the cache's folder was reached. Where it wasn't, these stores were given back. Where there is no cache, nothing is
-- touched
abbrev pub CacheOpened : List Location → Option (List ℕ) → Step Disk Unit
CacheOpened stores None d (Ok u) e = e ≡ d
CacheOpened stores None d (Err o) e = ⊥
CacheOpened stores (Some q) d (Ok u) e = IfSome d.folders (λ m. IsSome (m q)) × Reads d e × Uses [] (q ∷ []) d e
CacheOpened stores (Some q) d (Err o) e = NotReached d e q o × Reads d e × Uses [] (q ∷ folders_among stores) d e

-- it was given back, with the faults that it has counted
abbrev pub CacheGiven : Option Shelf → Disk → Disk → Type 0
CacheGiven None d e = e ≡ d
CacheGiven (Some s) d e = (e.folders ≡ folders_with (Some s) d.folders) × GivesFolder d e s.place s.faults
