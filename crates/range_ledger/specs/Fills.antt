-- How entries of a target are settled. The fates are m0 before and m1 afterwards, the bytes t0 and t1, and the count of
-- the target's faults goes from old to new.
use Rattle.std.specs.Prelude.{◌≡◌, ◌⊎◌, ℕ, ◌<◌, List, length, Option, IfSome, true, false}
use Rattle.std.specs.List.{Contains}
use Rattle.caibx_codec.specs.Listing.{Listing, count_of, slice_of}
use Rattle.caibx_codec.specs.Right.{IsRightAt}
use Rattle.range_survey.specs.Excuses.{Excuses}
use Rattle.range_survey.specs.Fates.{fate_at, is_made, settled}
use Rattle.range_survey.specs.declared.fate.Fate.{Fate}

-- a settled entry stays as it is, and one that became settled was made right
pub record Grows (m0 m1 : List Fate) : Type 0 where
  pub size : length m1 ≡ length m0
  pub kept : (i : ℕ) → settled m0 i ≡ true → fate_at m1 i ≡ fate_at m0 i
  pub made : (i : ℕ) → settled m0 i ≡ false → settled m1 i ≡ true → is_made (fate_at m1 i) ≡ true

-- a settled entry was never written, an entry that became settled is right, and one that stays open has its bytes
-- unless a write to it failed
pub record Fills (l : Listing) (m0 m1 : List Fate) (old new : ℕ) (t0 t1 : List ℕ) : Type 0 where
  pub failed : List ℕ
  pub excused : Excuses failed old new
  pub size : length t1 ≡ length t0
  pub kept : (i : ℕ) → i < count_of l → settled m0 i ≡ true → slice_of l t1 i ≡ slice_of l t0 i
  pub fresh : (i : ℕ) → i < count_of l → settled m0 i ≡ false → settled m1 i ≡ true → IsRightAt t1 l i
  pub left : (i : ℕ) → i < count_of l → settled m1 i ≡ false → (slice_of l t1 i ≡ slice_of l t0 i) ⊎ Contains failed i

-- the same, and a write to entry i failed
abbrev pub FillsTorn : Listing → List Fate → List Fate → (old new : ℕ) → ℕ → List ℕ → List ℕ → Type 0
FillsTorn l m0 m1 old new i t0 t1 = (fills : Fills l m0 m1 old new t0 t1) × Contains fills.failed i

-- what holds of an object's bytes before and afterwards, where they are told
abbrev pub WhereTold : Option (List ℕ) → Option (List ℕ) → (List ℕ → List ℕ → Type 0) → Type 0
WhereTold old new P = IfSome old (λ t0. IfSome new (P t0))
