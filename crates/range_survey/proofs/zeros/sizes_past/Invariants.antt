use Rattle.std.proofs.Common.{ℕ, ◌<◌, ◌≤◌, IsTrue}
use Rattle.std.specs.BTreeSet.{contains, btree_set_len}
use Rattle.std.specs.Ordering.{nat_cmp}
use Rattle.caibx_codec.specs.Listing.{start_of, size_of}
use Rattle.range_survey.specs.Zeros.{IsPastSize}
use Rattle.range_survey.proofs.zeros.sizes_past.Given as goal

abbrev pub invariant-loop-i : goal.invariant-loop-i
invariant-loop-i l = record {
  known : (i : ℕ) → i < l.i → l.old ≤ start_of l.index i → IsTrue (contains nat_cmp l.sizes (size_of l.index i));
  only : (n : ℕ) → IsTrue (contains nat_cmp l.sizes n) → IsPastSize l.index l.old n;
  size : btree_set_len l.sizes ≤ l.i;
}
