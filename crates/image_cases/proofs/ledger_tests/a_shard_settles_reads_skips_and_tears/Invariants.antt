use Rattle.std.proofs.Common.{[], true, false}
use Rattle.extract_plan.specs.Deal.{deal_shards}
use Rattle.image_cases.proofs.ledger_tests.a_shard_settles_reads_skips_and_tears.Given as goal

-- the run of the index and its plan, in which each entry may be filled, of a target that tells nothing
abbrev pub ghosts-settles_reads_skips_and_tears : goal.ghosts-settles_reads_skips_and_tears
ghosts-settles_reads_skips_and_tears g a = record {
  run = record { listing = a.index.now; base = []; shards = deal_shards a.plan.now; may = λ _. true; tells = false };
}
