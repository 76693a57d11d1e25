use Rattle.std.proofs.Common.{◌≡◌, ◌⊎◌, ℕ, ◌+◌, ◌≤◌, length, IsTrue, IsSome}
use Rattle.std.specs.BTreeSet.{contains, btree_set_len}
use Rattle.std.specs.Ordering.{nat_cmp}
use Rattle.range_survey.specs.Zeros.{AllDigests, zeros_at}
use Rattle.range_survey.proofs.zeros.digests_of.Given as goal

abbrev pub invariant-loop-size : goal.invariant-loop-size
invariant-loop-size l = record {
  known : (n : ℕ) → IsTrue (contains nat_cmp l.fn.sizes n) → IsTrue (contains nat_cmp l.sizes n) ⊎ IsSome (zeros_at l.digests.entries n);
  listed : (n : ℕ) → IsTrue (contains nat_cmp l.sizes n) → IsTrue (contains nat_cmp l.fn.sizes n);
  only : (n : ℕ) → IsSome (zeros_at l.digests.entries n) → IsTrue (contains nat_cmp l.fn.sizes n);
  room : (n : ℕ) → IsTrue (contains nat_cmp l.sizes n) → n ≤ length l.zeros;
  named : AllDigests l.fn.kind l.digests.entries;
  kind : l.fed.kind ≡ l.fn.kind;
  size : length l.digests.entries + btree_set_len l.sizes ≤ btree_set_len l.fn.sizes;
}

abbrev pub decreases-loop-size : goal.decreases-loop-size
decreases-loop-size l = btree_set_len l.sizes
