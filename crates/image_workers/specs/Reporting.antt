-- What an assembly by several workers reports of each entry. Entries, wants and workers count from 0.
use Rattle.std.specs.Prelude.{◌≡◌, ℕ, ◌%◌, List, [], slice_index_or}
use Rattle.assembler.specs.Passes.{want_at}
use Rattle.chunk_sources.specs.Economy.{origin_of, sum_below}
use Rattle.extract_plan.specs.Deal.{Deal}
use Rattle.range_survey.specs.Fates.{fate_at}
use Rattle.range_survey.specs.Reports.{one_if}
use Rattle.range_survey.specs.declared.fate.Fate.{Fate}
use Rattle.range_survey.specs.declared.fate.Fate.TheVariants as fate
use Rattle.range_survey.specs.declared.report.Report.{Report}

-- the fate of an entry of which its worker knows one fate, and the shards tell another: what the worker knows, and
-- where that is open what the shards tell, but that an entry which the survey left open isn't kept
abbrev pub fate_told : Fate → Fate → Fate
fate_told fate.Open last = origin_of last
fate_told fate.Kept last = fate.Kept
fate_told fate.Copied last = fate.Copied
fate_told fate.Seeded last = fate.Seeded
fate_told fate.Cached last = fate.Cached
fate_told fate.Fetched last = fate.Fetched

-- what worker k knows of entry i, by the lists of all workers
abbrev pub known_at : List (List Fate) → ℕ → ℕ → Fate
known_at lists k i = fate_at (slice_index_or lists k []) i

-- so entry i is reported, by what the worker knows that is dealt its want, and by what the shards tell in the end
abbrev pub reported_at : Deal → List (List Fate) → List Fate → ℕ → Fate
reported_at d lists last i = fate_told (known_at lists (want_at d i % d.workers) i) (fate_at last i)

-- the report has the numbers of these fates of the first n entries
pub record CountsFates (at : ℕ → Fate) (n : ℕ) (r : Report) : Type 0 where
  pub kept : r.kept ≡ sum_below (λ i. one_if fate.Kept (at i)) n
  pub copied : r.copied ≡ sum_below (λ i. one_if fate.Copied (at i)) n
  pub seeded : r.seeded ≡ sum_below (λ i. one_if fate.Seeded (at i)) n
  pub cached : r.cached ≡ sum_below (λ i. one_if fate.Cached (at i)) n
  pub fetched : r.fetched ≡ sum_below (λ i. one_if fate.Fetched (at i)) n
