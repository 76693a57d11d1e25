-- What words name as stores, and how their folders are reached. A store is seen by its folder's files, its place and
-- its faults.
use Rattle.std.specs.Prelude.{◌≡◌, ℕ, ◌&&◌, Bool, true, false, List, [], ◌∷◌, Option, Some, None, IfSome, Ok, Err}
use Rattle.std.specs.Option.{option_map}
use Rattle.command_outcome.specs.declared.outcome.Outcome.{Outcome}
use Rattle.command_outcome.specs.declared.outcome.Outcome.TheVariants as ends
use Rattle.command_steps.specs.Uses.{Uses}
use Rattle.command_worlds.specs.Worlds.{Adds, FolderRose, Reads, Step}
use Rattle.command_words.specs.declared.command.Location.{Location}
use Rattle.command_words.specs.declared.command.Location.TheVariants as locations
use Rattle.dsy_base.specs.Disk.{Disk}
use Rattle.dsy_base.specs.declared.fault.OpenFault.{OpenFault}
use Rattle.dsy_base.specs.declared.fault.OpenFault.TheVariants as opens
use Rattle.dsy_base.specs.Maps.{Map, at_name}

-- ---- what the words name

abbrev pub is_folder : Location → Bool
is_folder (locations.Folder name) = true
is_folder (locations.Http host port prefix) = false

abbrev pub are_folders : List Location → Bool
are_folders [] = true
are_folders (s ∷ stores) = is_folder s && are_folders stores

-- the name of the folder; a server has the empty one
abbrev pub folder_name : Location → List ℕ
folder_name (locations.Folder name) = name
folder_name (locations.Http host port prefix) = []

-- ---- how opening may refuse

-- one folder
abbrev pub NotReached : Disk → Disk → List ℕ → Outcome → Type 0
NotReached d e q (ends.NoFolder name) = (name ≡ q) × IfSome d.folders (λ m. m q ≡ None)
NotReached d e q (ends.FileFault name) = (name ≡ q) × FolderRose d e q
NotReached d e q ends.Memory = Unit {0}
NotReached d e q other = ⊥

-- the outcome of a fault of opening it. Want of memory is free, since the outcome keeps the name
abbrev pub RefusesOpening : List ℕ → OpenFault → Outcome → Type 0
RefusesOpening q fault ends.Memory = Unit {0}
RefusesOpening q opens.Absent (ends.NoFolder name) = name ≡ q
RefusesOpening q opens.Failed (ends.FileFault name) = name ≡ q
RefusesOpening q fault other = ⊥

-- the folder of a store was taken to be written: it isn't there until it is given back
abbrev pub IsTaken : Disk → Disk → List ℕ → Type 0
IsTaken d e q = (e.folders ≡ option_map (λ m. at_name m q None) d.folders) × Adds d e

-- the folder of this name was. Where it isn't reached, these images, which were open, are given back
abbrev pub StoreTaken : List (List ℕ) → List ℕ → Step Disk (Option (Map (List ℕ)))
StoreTaken images q d (Ok held) e = IfSome d.folders (λ m. (f : Map (List ℕ)) × (m q ≡ Some f) × (held ≡ Some f))
    × IsTaken d e q × Uses [] (q ∷ []) d e
StoreTaken images q d (Err o) e = NotReached d e q o × Reads d e × Uses images (q ∷ []) d e

-- ---- a store over a folder

module _ {S : Type 0} (files : S → Option (Map (List ℕ))) (place : S → List ℕ) (counted : S → ℕ) where
  -- a fresh store over the folder of this name
  pub record IsStoreAt (folders : Option (Map (Map (List ℕ)))) (name : List ℕ) (s : S) : Type 0 where
    pub found : IfSome folders (λ m. (f : Map (List ℕ)) × (m name ≡ Some f) × (files s ≡ Some f))
    pub named : place s ≡ name
    pub unfailed : counted s ≡ 0
