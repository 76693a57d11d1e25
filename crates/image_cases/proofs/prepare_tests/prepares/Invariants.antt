use Rattle.std.proofs.Common.{true, vec_len}
use Rattle.caibx_codec.specs.Listing.{count_of, image_length}
use Rattle.dsy_base.specs.Bytes.{resized}
use Rattle.extract_plan.specs.Deal.{shards_of}
use Rattle.image_cases.proofs.prepare_tests.prepares.Given as goal

-- the run of the index over this target, in which each entry may be filled
abbrev pub ghosts-prepared : goal.ghosts-prepared
ghosts-prepared g a = record {
  run = record {
    listing = a.index.now;
    base = resized a.target.bytes.items (image_length a.index.now);
    shards = shards_of (vec_len a.kits) (count_of a.index.now);
    may = λ _. true;
    tells = true;
  };
}
