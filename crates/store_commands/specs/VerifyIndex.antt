-- `verify-index INDEX IMAGE`.
use Rattle.std.specs.Prelude.{◌≡◌, ◌≢◌, ℕ, ◌<◌, List, length, Option, Some, IfSome, Result, Ok, Err}
use Rattle.caibx_codec.specs.Listing.{Listing, count_of, id_of, image_length}
use Rattle.caibx_codec.specs.Right.{IsRight}
use Rattle.command_outcome.specs.declared.outcome.Outcome.{Outcome}
use Rattle.command_outcome.specs.declared.outcome.Outcome.TheVariants as ends
use Rattle.image_check.specs.Checks.{IsFirstWrong}
use Rattle.image_check.specs.declared.check.CheckFault.{CheckFault}
use Rattle.image_check.specs.declared.check.CheckFault.TheVariants as checks
use Rattle.dsy_base.specs.Maps.{Map}
use Rattle.command_indexes.specs.Gets.{IndexGot}
use Rattle.command_steps.specs.InputFiles.{ImageOpened}
use Rattle.command_steps.specs.Sources.{OnStorage}
use Rattle.command_worlds.specs.Steps.{◌>>=◌}
use Rattle.command_worlds.specs.Worlds.{FileRose, OnDisk, Reads, Step, World}
use Rattle.dsy_base.specs.Disk.{Disk}

-- the image of this name, with these bytes where they are told, was held against the index
abbrev pub Checked : Disk → Disk → List ℕ → Listing → Option (List ℕ) → Result Unit Outcome → Type 0
Checked d e image l told (Ok u) = IfSome told (λ t. IsRight t l)
Checked d e image l told (Err (ends.Length n)) = (n ≢ image_length l) × IfSome told (λ t. n ≡ length t)
Checked d e image l told (Err (ends.Mismatch k got)) =
    (k < count_of l) × (got.0 ≢ id_of l k) × IfSome told (λ t. (length t ≡ image_length l) × IsFirstWrong t l k got.0)
Checked d e image l told (Err ends.ImageFault) = FileRose d e image
Checked d e image l told (Err ends.Memory) = Unit {0}
Checked d e image l told (Err other) = ⊥

abbrev pub ImageChecked : List ℕ → Listing → Option (List ℕ) → Step Disk Unit
ImageChecked image l told d r e = Checked d e image l told r × Reads d e

abbrev pub VerifyIndexEnds : List ℕ → List ℕ → Step World Unit
VerifyIndexEnds index image = do
  l ← OnStorage (IndexGot index)
  told ← OnDisk (ImageOpened image)
  OnDisk (ImageChecked image l told)

-- the outcome of the check
abbrev pub answer_of_check : Result Unit CheckFault → Result Unit Outcome
answer_of_check (Ok u) = Ok u
answer_of_check (Err (checks.Length n)) = Err (ends.Length n)
answer_of_check (Err (checks.Mismatch k got)) = Err (ends.Mismatch k got)
answer_of_check (Err checks.ImageFault) = Err ends.ImageFault
answer_of_check (Err checks.Memory) = Err ends.Memory

-- IMAGE is the image that INDEX, which spells an index by the relation that is given, lists
pub record IsVerified (Spelled : List ℕ → Listing → Type 0) (files : Map (List ℕ)) (index image : List ℕ) : Type 0 where
  pub listing : Listing
  pub listed : Spelled index listing
  pub bytes : List ℕ
  pub there : files image ≡ Some bytes
  pub right : IsRight bytes listing
