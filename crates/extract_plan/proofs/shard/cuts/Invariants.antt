use Rattle.std.proofs.Common.{◌≡◌, ◌+◌, ◌<◌, ℕ, length, slice_index}
use Rattle.caibx_codec.specs.Listing.{count_of, start_of}
use Rattle.extract_plan.specs.Deal.{shard_start}
use Rattle.extract_plan.proofs.shard.cuts.Given as goal

abbrev pub invariant-loop-k : goal.invariant-loop-k
invariant-loop-k l = record {
  size : length l.cuts.items ≡ l.k;
  ends : (k : ℕ) → k < l.k → slice_index l.cuts.items k ≡ start_of l.index (shard_start (count_of l.index) l.shards (k + 1));
}
