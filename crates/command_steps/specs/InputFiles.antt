-- Reading an index, and opening an image.
use Rattle.std.specs.Prelude.{◌≡◌, ℕ, List, [], ◌∷◌, Option, Some, None, IfSome, Ok, Err}
use Rattle.caibx_codec.specs.Listing.{Listing}
use Rattle.caibx_codec.specs.Reading.{index_in}
use Rattle.caibx_codec.specs.Spelling.{IsIndexFile}
use Rattle.caibx_fields.specs.declared.fault.IndexFault.{IndexFault}
use Rattle.command_outcome.specs.declared.outcome.Outcome.{Outcome}
use Rattle.command_outcome.specs.declared.outcome.Outcome.TheVariants as ends
use Rattle.command_steps.specs.Uses.{Uses}
use Rattle.command_worlds.specs.Worlds.{FileRose, Reads, Step}
use Rattle.dsy_base.specs.Disk.{Disk}
use Rattle.dsy_base.specs.Maps.{Map}

-- ---- an index

-- the file is there and is the index file of this index
pub record IsListed (files : Map (List ℕ)) (index : List ℕ) (l : Listing) : Type 0 where
  pub bytes : List ℕ
  pub there : files index ≡ Some bytes
  pub file : IsIndexFile bytes l

-- the bytes are no index file, and this is their first fault
pub record IsBad (bytes : List ℕ) (fault : IndexFault) : Type 0 where
  pub none : (l : Listing) → IsIndexFile bytes l → ⊥
  pub first : index_in bytes ≡ Err fault

abbrev pub Listed : Disk → List ℕ → Listing → Type 0
Listed d q l = IfSome d.files (λ m. IsListed m q l)

abbrev pub NotRead : Disk → Disk → List ℕ → Outcome → Type 0
NotRead d e q (ends.NoFile name) = (name ≡ q) × IfSome d.files (λ m. m q ≡ None)
NotRead d e q (ends.BadIndex name fault) = (name ≡ q) × IfSome d.files (λ m. (b : List ℕ) × (m q ≡ Some b)
    × IsBad b fault)
NotRead d e q (ends.FileFault name) = (name ≡ q) × FileRose d e q
NotRead d e q ends.Memory = Unit {0}
NotRead d e q other = ⊥

abbrev pub IndexRead : List ℕ → Step Disk Listing
IndexRead q d (Ok l) e = Listed d q l × Reads d e × Uses (q ∷ []) [] d e
IndexRead q d (Err o) e = NotRead d e q o × Reads d e × Uses (q ∷ []) [] d e

-- ---- an image

-- its bytes, where they are told
abbrev pub Holds : Disk → List ℕ → Option (List ℕ) → Type 0
Holds d q told = IfSome d.files (λ m. (t : List ℕ) × (m q ≡ Some t) × (told ≡ Some t))

abbrev pub NotOpened : Disk → Disk → List ℕ → Outcome → Type 0
NotOpened d e q (ends.NoFile name) = (name ≡ q) × IfSome d.files (λ m. m q ≡ None)
NotOpened d e q ends.ImageFault = FileRose d e q
NotOpened d e q ends.Memory = Unit {0}
NotOpened d e q other = ⊥

abbrev pub ImageOpened : List ℕ → Step Disk (Option (List ℕ))
ImageOpened q d (Ok told) e = Holds d q told × Reads d e × Uses (q ∷ []) [] d e
ImageOpened q d (Err o) e = NotOpened d e q o × Reads d e × Uses (q ∷ []) [] d e
