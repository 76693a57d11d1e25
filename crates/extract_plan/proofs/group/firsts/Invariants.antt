use Rattle.std.proofs.Common.{◌≡◌, ◌<◌, ℕ, Some, length, slice_index, slice_index_or}
use Rattle.caibx_codec.specs.Listing.{count_of}
use Rattle.extract_plan.specs.Keys.{number_with}
use Rattle.extract_plan.specs.declared.keyed.Keyed.{Keyed}
use Rattle.extract_plan.proofs.group.firsts.Given as goal

-- entries before place k are marked with the first that has their key
abbrev pub invariant-loop-k : goal.invariant-loop-k
invariant-loop-k l = record {
  size : length l.firsts.items ≡ count_of l.index;
  marked : (j : ℕ) (d : Keyed) → j < l.k → number_with l.entries.items (slice_index_or l.entries.items j d)
      ≡ Some (slice_index l.firsts.items (slice_index_or l.entries.items j d).number);
}
