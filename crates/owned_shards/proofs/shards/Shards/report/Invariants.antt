use Rattle.std.proofs.Common.{◌≡◌}
use Rattle.range_survey.specs.Reports.{tally}
use Rattle.range_survey.specs.declared.fate.Fate.TheVariants as fate
use Rattle.owned_shards.proofs.shards.Shards.report.Given as goal

abbrev pub invariant-loop-entry : goal.invariant-loop-entry
invariant-loop-entry g l = record {
  kept : l.report.kept ≡ tally fate.Kept l.self.fates l.entry;
  copied : l.report.copied ≡ tally fate.Copied l.self.fates l.entry;
  seeded : l.report.seeded ≡ tally fate.Seeded l.self.fates l.entry;
  cached : l.report.cached ≡ tally fate.Cached l.self.fates l.entry;
  fetched : l.report.fetched ≡ tally fate.Fetched l.self.fates l.entry;
}
