use Rattle.std.proofs.Common.{◌≡◌, ◌<◌, ◌≤◌, ◌-◌, ℕ, true, false, length, slice_index_or}
use Rattle.std.specs.Ordering.{is_lt}
use Rattle.extract_plan.specs.Keys.{key_cmp}
use Rattle.extract_plan.specs.declared.keyed.Keyed.{Keyed}
use Rattle.extract_plan.proofs.keyed.place_of.Given as goal

-- keys below what is left are before the key, and that past it isn't
abbrev pub invariant-loop-rest : goal.invariant-loop-rest
invariant-loop-rest l = record {
  ends : l.rest.low ≤ l.rest.high;
  inside : l.rest.high ≤ length l.sorted;
  below : (j : ℕ) (d : Keyed) → j < l.rest.low → is_lt (key_cmp (slice_index_or l.sorted j d).key l.key) ≡ true;
  above : (d : Keyed) → l.rest.high < length l.sorted → is_lt (key_cmp (slice_index_or l.sorted l.rest.high d).key l.key) ≡ false;
}

abbrev pub decreases-loop-rest : goal.decreases-loop-rest
decreases-loop-rest l = l.rest.high - l.rest.low
