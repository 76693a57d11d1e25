use Rattle.std.proofs.Common.{◌≡◌, ℕ, List, take}
use Rattle.std.specs.BTreeSet.{btree_set_len, contains}
use Rattle.std.specs.Cmp.Lexicographic.{slice_cmp}
use Rattle.std.specs.Ordering.{nat_cmp}
use Rattle.std.specs.Set.{distinct_count, is_member}
use Rattle.std.specs.Str.{bytes_eq}
use Rattle.verify_tool.specs.Texts.{ids_of}
use Rattle.verify_tool.proofs.info.unique_ids.Given as goal

-- the ids before entry i are in the set
abbrev pub invariant-loop-i : goal.invariant-loop-i
invariant-loop-i l =
    let front = take l.i (ids_of l.index) in
    record {
      size : btree_set_len l.ids ≡ distinct_count bytes_eq front;
      holds : (q : List ℕ) → contains (slice_cmp nat_cmp) l.ids q ≡ is_member bytes_eq front q;
    }
