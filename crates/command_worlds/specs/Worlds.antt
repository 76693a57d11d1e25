-- The world as commands see it, and what a step leaves of it. A name is its bytes.
use Rattle.std.specs.Prelude.{◌≡◌, ℕ, ◌≤◌, List, IsSome, Result}
use Rattle.std.specs.Map.{count_at}
use Rattle.command_outcome.specs.declared.outcome.Outcome.{Outcome}
use Rattle.dsy_base.specs.Counts.{AllQuiet, Quiet, Rose}
use Rattle.dsy_base.specs.Disk.{Disk, Output}
use Rattle.dsy_base.specs.Links.{DialState}

-- all that a command may change: files and folders, what was dialed, and what was printed
pub record World : Type 0 where
  pub disk : Disk
  pub dial : DialState
  pub out : Output

abbrev pub world : Disk → DialState → Output → World
world d k p = record { disk = d; dial = k; out = p }

-- how a step, which may give something, leads from one world to another; and one over a part of the world
abbrev pub Step : Type 0 → Type 0 → Type 1
Step W A = W → Result A Outcome → W → Type 0

-- ---- what stays

-- a disk that was read: what the names hold stays, no number falls, and none is forgotten
pub record Reads (d e : Disk) : Type 0 where
  pub files : e.files ≡ d.files
  pub folders : e.folders ≡ d.folders
  pub counts : (q : List ℕ) → count_at d.file_counts q ≤ count_at e.file_counts q
  pub folder_counts : (q : List ℕ) → count_at d.folder_counts q ≤ count_at e.folder_counts q
  pub known : (q : List ℕ) → IsSome (d.file_counts q) → IsSome (e.file_counts q)
  pub folder_known : (q : List ℕ) → IsSome (d.folder_counts q) → IsSome (e.folder_counts q)

-- a disk whose files were written: what the folders hold stays, and no number falls
pub record Writes (d e : Disk) : Type 0 where
  pub folders : e.folders ≡ d.folders
  pub counts : (q : List ℕ) → count_at d.file_counts q ≤ count_at e.file_counts q
  pub folder_counts : (q : List ℕ) → count_at d.folder_counts q ≤ count_at e.folder_counts q

-- a disk whose folders were written: what the files hold stays, no number falls, and none is forgotten
pub record Adds (d e : Disk) : Type 0 where
  pub files : e.files ≡ d.files
  pub counts : (q : List ℕ) → count_at d.file_counts q ≤ count_at e.file_counts q
  pub folder_counts : (q : List ℕ) → count_at d.folder_counts q ≤ count_at e.folder_counts q
  pub known : (q : List ℕ) → IsSome (d.file_counts q) → IsSome (e.file_counts q)
  pub folder_known : (q : List ℕ) → IsSome (d.folder_counts q) → IsSome (e.folder_counts q)

-- ---- a step that touches nothing, and one over a part of the world, which leaves the rest

abbrev pub Pure : {A : Type 0} → (Result A Outcome → Type 0) → Step World A
Pure answers w r v = answers r × (v ≡ w)

abbrev pub OnDisk : {A : Type 0} → Step Disk A → Step World A
OnDisk step w r v = step w.disk r v.disk × (v.dial ≡ w.dial) × (v.out ≡ w.out)

abbrev pub OnOut : {A : Type 0} → Step Output A → Step World A
OnOut step w r v = step w.out r v.out × (v.disk ≡ w.disk) × (v.dial ≡ w.dial)

-- ---- whose fault it was

-- calls on the file, and on the folder, have failed
abbrev pub FileRose : Disk → Disk → List ℕ → Type 0
FileRose d e q = Rose (count_at d.file_counts q) (count_at e.file_counts q)

abbrev pub FolderRose : Disk → Disk → List ℕ → Type 0
FolderRose d e q = Rose (count_at d.folder_counts q) (count_at e.folder_counts q)

-- no call on files and folders has failed
pub record DiskQuiet (d e : Disk) : Type 0 where
  pub files : AllQuiet d.file_counts e.file_counts
  pub folders : AllQuiet d.folder_counts e.folder_counts

-- no call has failed
pub record NoFault (w v : World) : Type 0 where
  pub disk : DiskQuiet w.disk v.disk
  pub dial : Quiet w.dial.faults v.dial.faults
  pub out : Quiet w.out.faults v.out.faults
