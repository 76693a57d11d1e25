-- That what an assembly makes right can be obtained, whatever fails. `o` are the target's bytes before it, t those
-- after it. The count of the target's faults goes from old to new.
use Rattle.std.specs.Prelude.{◌≡◌, ◌⊎◌, ℕ, ◌<◌, List, Result, Ok, Err}
use Rattle.std.specs.List.{Contains}
use Rattle.assembler.specs.declared.fault.ExtractFault.{ExtractFault}
use Rattle.caibx_codec.specs.Listing.{Listing, count_of, image_length, slice_of}
use Rattle.dsy_base.specs.Bytes.{resized}
use Rattle.range_survey.specs.Excuses.{Excuses}
use Rattle.range_survey.specs.declared.report.Report.{Report}

-- each entry can be obtained or has the base's bytes, unless a write to it failed
pub record IsObtainableOrBase (l : Listing) (P : ℕ → Type 0) (old new : ℕ) (base t : List ℕ) : Type 0 where
  pub failed : List ℕ
  pub excused : Excuses failed old new
  pub each : (i : ℕ) → i < count_of l → P i ⊎ ((slice_of l t i ≡ slice_of l base i) ⊎ Contains failed i)

-- after Ok each entry can be obtained. After a refusal each entry can be obtained or has the base's bytes, unless a
-- write to it failed; where no entry is named the length may not have been set
abbrev pub OnlyObtainable : Listing → (ℕ → Type 0) → ℕ → ℕ → Result Report ExtractFault → List ℕ → List ℕ → Type 0
OnlyObtainable l P old new (Ok r) o t = (i : ℕ) → i < count_of l → P i
OnlyObtainable l P old new (Err e) o t = (t ≡ o) ⊎ IsObtainableOrBase l P old new (resized o (image_length l)) t
