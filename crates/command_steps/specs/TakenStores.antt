-- A store that is taken to be written, and given back.
use Rattle.std.specs.Prelude.{◌≡◌, List, [], ℕ, Option, None, Ok, Err}
use Rattle.std.specs.Option.{option_map}
use Rattle.command_outcome.specs.declared.outcome.Outcome.TheVariants as ends
use Rattle.command_steps.specs.Stores.{StoreTaken}
use Rattle.command_steps.specs.Uses.{Uses}
use Rattle.command_worlds.specs.Worlds.{Reads, Step}
use Rattle.command_words.specs.declared.command.Location.{Location}
use Rattle.command_words.specs.declared.command.Location.TheVariants as locations
use Rattle.dsy_base.specs.Disk.{Disk}
use Rattle.dsy_base.specs.Maps.{Map, at_name}

-- the folder of a store was taken. A server is only asked later: nothing is touched, and it tells no files. Where it
-- isn't reached, these images, which were open, are given back
abbrev pub SourceTaken : List (List ℕ) → Location → Step Disk (Option (Map (List ℕ)))
SourceTaken images (locations.Folder q) d r e = StoreTaken images q d r e
SourceTaken images (locations.Http host port prefix) d (Ok held) e = (held ≡ None) × (e ≡ d)
SourceTaken images (locations.Http host port prefix) d (Err o) e = (o ≡ ends.Memory) × Reads d e × Uses images [] d e

-- the folders, among which that of this store holds these files again. A server has none
abbrev pub given_to : Location → Option (Map (List ℕ)) → Option (Map (Map (List ℕ))) → Option (Map (Map (List ℕ)))
given_to (locations.Folder q) files folders = option_map (λ m. at_name m q files) folders
given_to (locations.Http host port prefix) files folders = folders
