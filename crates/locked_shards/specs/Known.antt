-- What one of several workers knows of a target whose shards stand behind locks. Entries and shards count from 0.
use Rattle.std.specs.Prelude.{◌≡◌, ℕ, ◌<◌, ◌≤◌, List, length, IsTrue}
use Rattle.caibx_codec.specs.Listing.{count_of}
use Rattle.caibx_codec.specs.Right.{IsRightAt}
use Rattle.range_ledger.specs.Runs.{Run}
use Rattle.range_survey.specs.Fates.{fate_at}
use Rattle.range_survey.specs.declared.fate.Fate.{Fate}
use Rattle.range_survey.specs.declared.fate.Fate.TheVariants as fate

-- what became of each entry, as far as the worker knows, and how often a call of its own has failed
pub record Knowledge : Type 0 where
  pub fates : List Fate
  pub faults : ℕ

-- there is one lock for each shard of the run, and an entry that the worker knows as kept is right in the base
pub record KnowsEntries (r : Run) (locks : ℕ) (fates : List Fate) : Type 0 where
  pub size : length fates ≡ count_of r.listing
  pub all : locks ≡ r.shards
  pub few : r.shards ≤ count_of r.listing
  pub some : 0 < count_of r.listing → 0 < r.shards
  pub kept : IsTrue r.tells → (e : ℕ) → e < count_of r.listing → fate_at fates e ≡ fate.Kept
      → IsRightAt r.base r.listing e
