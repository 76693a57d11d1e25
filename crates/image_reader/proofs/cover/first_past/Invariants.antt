use Rattle.std.proofs.Common.{ℕ, ◌-◌, ◌<◌, ◌≤◌}
use Rattle.caibx_codec.specs.Listing.{count_of, end_of}
use Rattle.image_reader.proofs.cover.first_past.Given as goal

abbrev pub invariant-loop-low : goal.invariant-loop-low
invariant-loop-low l = record {
  order : l.low ≤ l.high;
  inside : l.high ≤ count_of l.index;
  before : (i : ℕ) → i < l.low → end_of l.index i ≤ l.at;
  past : l.high < count_of l.index → l.at < end_of l.index l.high;
}

abbrev pub decreases-loop-low : goal.decreases-loop-low
decreases-loop-low l = l.high - l.low
