use Rattle.std.proofs.Common.{◌≡◌, ◌+◌, ◌≤◌, ◌++◌, map, reverse, vec_len, vec_capacity}
use Rattle.store_check.proofs.hiring.dismiss.Given as goal

-- the looks of the readers after these are taken back
abbrev pub invariant-loop-reader : goal.invariant-loop-reader
invariant-loop-reader g l = record {
  looks : l.looks.items ++ reverse (map (λ r. r.store) l.readers.items) ≡ reverse (map (λ r. r.store) l.fn.readers.items);
  room : vec_len l.looks + vec_len l.readers ≤ vec_capacity l.looks;
}

abbrev pub decreases-loop-reader : goal.decreases-loop-reader
decreases-loop-reader g l = goal.left-loop-reader g l
