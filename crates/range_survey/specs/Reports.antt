-- What an assembly reports.
use Rattle.std.specs.Prelude.{ℕ, zero, suc, ◌+◌, List, if◌then◌else◌}
use Rattle.caibx_codec.specs.Listing.{Listing}
use Rattle.range_survey.specs.Fates.{fate_at, is_right_at}
use Rattle.range_survey.specs.declared.fate.Fate.{Fate}
use Rattle.range_survey.specs.declared.fate.Fate.TheVariants as fate

-- 1 where both fates are the same
abbrev pub one_if : Fate → Fate → ℕ
one_if fate.Open fate.Open = 1
one_if fate.Kept fate.Kept = 1
one_if fate.Copied fate.Copied = 1
one_if fate.Seeded fate.Seeded = 1
one_if fate.Cached fate.Cached = 1
one_if fate.Fetched fate.Fetched = 1
one_if _ _ = 0

-- how many of the first k entries have the fate
abbrev pub tally : Fate → List Fate → ℕ → ℕ
tally f fates zero = 0
tally f fates (suc k) = tally f fates k + one_if f (fate_at fates k)

-- how many of the first k entries are right in t
abbrev pub right_below : Listing → List ℕ → ℕ → ℕ
right_below l t zero = 0
right_below l t (suc k) = right_below l t k + (if is_right_at l t k then 1 else 0)
