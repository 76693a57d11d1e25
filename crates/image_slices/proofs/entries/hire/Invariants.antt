use Rattle.std.proofs.Common.{◌≡◌, ◌+◌, ◌≤◌, ◌++◌, All, map, reverse, vec_len, vec_capacity}
use Rattle.image_slices.proofs.entries.hire.Given as goal

-- the views before these have readers
abbrev pub invariant-loop-view : goal.invariant-loop-view
invariant-loop-view g l = record {
  views : l.views.items ++ reverse (map (λ r. r.view) l.readers.items) ≡ reverse l.fn.views.items;
  index : All (λ r. r.index.now ≡ l.index) l.readers.items;
  count : vec_len l.views + vec_len l.readers ≡ vec_len l.fn.views;
  room : vec_len l.fn.views ≤ vec_capacity l.readers;
  back : vec_capacity l.views ≡ vec_capacity l.fn.views;
}

abbrev pub decreases-loop-view : goal.decreases-loop-view
decreases-loop-view g l = vec_len l.views
