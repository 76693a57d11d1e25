use Rattle.std.proofs.Common.{◌≡◌, ◌<◌, ℕ, length, slice_index}
use Rattle.extract_plan.specs.Places.{nth_place}
use Rattle.extract_plan.proofs.seeds.ordered.Given as goal

abbrev pub invariant-loop-k : goal.invariant-loop-k
invariant-loop-k l = record {
  size : length l.all.items ≡ l.k;
  value : (k : ℕ) → k < l.k → nth_place l.all.items k ≡ nth_place l.places (slice_index l.order k);
}
