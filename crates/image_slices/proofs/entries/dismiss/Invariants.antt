use Rattle.std.proofs.Common.{◌≡◌, ◌+◌, ◌≤◌, ◌++◌, map, reverse, vec_len, vec_capacity}
use Rattle.image_slices.proofs.entries.dismiss.Given as goal

-- the views of the readers after these are taken back
abbrev pub invariant-loop-reader : goal.invariant-loop-reader
invariant-loop-reader g l = record {
  views : l.views.items ++ reverse (map (λ r. r.view) l.readers.items) ≡ reverse (map (λ r. r.view) l.fn.readers.items);
  room : vec_len l.views + vec_len l.readers ≤ vec_capacity l.views;
  back : vec_capacity l.fn.views ≤ vec_capacity l.views;
}

abbrev pub decreases-loop-reader : goal.decreases-loop-reader
decreases-loop-reader g l = goal.left-loop-reader g l
