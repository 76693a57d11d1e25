-- Which names a step has used: the numbers of no others have changed.
use Rattle.std.specs.Prelude.{◌≡◌, ◌≢◌, ℕ, List, [], ◌∷◌, Option, Some, None}
use Rattle.command_words.specs.declared.command.Location.{Location}
use Rattle.command_words.specs.declared.command.Location.TheVariants as locations
use Rattle.dsy_base.specs.Bytes.{Held}
use Rattle.dsy_base.specs.Disk.{Disk}
use Rattle.dsy_base.specs.Maps.{Map}

-- q is none of these names
abbrev pub IsNoneOf : List ℕ → List (List ℕ) → Type 0
IsNoneOf q [] = Unit {0}
IsNoneOf q (name ∷ names) = (q ≢ name) × IsNoneOf q names

-- each name but these has the number that it had
abbrev pub OnlyOf : List (List ℕ) → Map ℕ → Map ℕ → Type 0
OnlyOf names old new = (q : List ℕ) → IsNoneOf q names → new q ≡ old q

-- the numbers of these files and folders may have changed, and no others
pub record Uses (file_names folder_names : List (List ℕ)) (d e : Disk) : Type 0 where
  pub files : OnlyOf file_names d.file_counts e.file_counts
  pub folders : OnlyOf folder_names d.folder_counts e.folder_counts

-- the names of the folders among these stores
abbrev pub folders_among : List Location → List (List ℕ)
folders_among [] = []
folders_among (locations.Folder q ∷ stores) = q ∷ folders_among stores
folders_among (locations.Http host port prefix ∷ stores) = folders_among stores

-- the names of the files among these views
abbrev pub names_among : List (Option Held) → List (List ℕ)
names_among [] = []
names_among (None ∷ views) = names_among views
names_among (Some h ∷ views) = h.name ∷ names_among views
