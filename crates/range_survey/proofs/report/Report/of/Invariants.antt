use Rattle.std.proofs.Common.{◌≡◌}
use Rattle.range_survey.specs.Reports.{tally}
use Rattle.range_survey.specs.declared.fate.Fate.TheVariants as fate
use Rattle.range_survey.proofs.report.Report.of.Given as goal

abbrev pub invariant-loop-i : goal.invariant-loop-i
invariant-loop-i l = record {
  kept : l.report.kept ≡ tally fate.Kept l.fates l.i;
  copied : l.report.copied ≡ tally fate.Copied l.fates l.i;
  seeded : l.report.seeded ≡ tally fate.Seeded l.fates l.i;
  cached : l.report.cached ≡ tally fate.Cached l.fates l.i;
  fetched : l.report.fetched ≡ tally fate.Fetched l.fates l.i;
}
