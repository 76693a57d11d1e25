use Rattle.std.proofs.Common.{true}
use Rattle.caibx_codec.specs.Listing.{image_length}
use Rattle.dsy_base.specs.Bytes.{resized}
use Rattle.extract_plan.specs.Deal.{deal_shards}
use Rattle.image_cases.proofs.survey_tests.keeps.Given as goal

-- the run of the index and its plan over this target, in which each entry may be filled
abbrev pub ghosts-surveys : goal.ghosts-surveys
ghosts-surveys g a = record {
  run = record {
    listing = a.index.now;
    base = resized a.target.bytes.items (image_length a.index.now);
    shards = deal_shards a.plan.now;
    may = λ _. true;
    tells = true;
  };
}
