-- The outside world as contracts see it: files and folders by their names, and what was printed.
use Rattle.std.specs.Prelude.{◌≡◌, ℕ, ◌≤◌, List, ◌++◌, length, take, Option}
use Rattle.std.specs.Option.{option_map}
use Rattle.dsy_base.specs.Counts.{Counted, GivenBack}
use Rattle.dsy_base.specs.Maps.{Map}

-- the bytes of each file and the files of each folder, where the type tells them, and the number of each name that was
-- used: how often calls on it have failed
pub record Disk : Type 0 where
  pub files : Option (Map (List ℕ))
  pub folders : Option (Map (Map (List ℕ)))
  pub file_counts : Map ℕ
  pub folder_counts : Map ℕ

-- the bytes that a sink has taken, where its type tells them, and how often a call on it has failed
pub record Output : Type 0 where
  pub taken : Option (List ℕ)
  pub faults : ℕ

-- a sink that had taken `old` has taken a front of the text besides
abbrev pub PutsFront : List ℕ → Option (List ℕ) → Option (List ℕ) → Type 0
PutsFront text old new = (n : ℕ) × (n ≤ length text) × (new ≡ option_map (λ t. t ++ take n text) old)

-- files and folders hold what they held
pub record HoldsSame (d e : Disk) : Type 0 where
  pub files : e.files ≡ d.files
  pub folders : e.folders ≡ d.folders

-- a call on one file's name: folders stay, and no number but that name's changes
pub record OnFile (d e : Disk) (name : List ℕ) : Type 0 where
  pub counts : Counted d.file_counts e.file_counts name
  pub folder_counts : e.folder_counts ≡ d.folder_counts
  pub folders : e.folders ≡ d.folders

-- the same of one folder's name
pub record OnFolder (d e : Disk) (name : List ℕ) : Type 0 where
  pub counts : e.file_counts ≡ d.file_counts
  pub folder_counts : Counted d.folder_counts e.folder_counts name
  pub files : e.files ≡ d.files

-- what was taken under a file's name is given back, with n faults
pub record GivesFile (d e : Disk) (name : List ℕ) (n : ℕ) : Type 0 where
  pub counts : GivenBack d.file_counts e.file_counts name n
  pub folder_counts : e.folder_counts ≡ d.folder_counts
  pub folders : e.folders ≡ d.folders

-- the same of a folder's name
pub record GivesFolder (d e : Disk) (name : List ℕ) (n : ℕ) : Type 0 where
  pub counts : e.file_counts ≡ d.file_counts
  pub folder_counts : GivenBack d.folder_counts e.folder_counts name n
  pub files : e.files ≡ d.files
