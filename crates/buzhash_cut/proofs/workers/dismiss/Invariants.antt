use Rattle.std.proofs.Common.{◌≡◌, ◌+◌, ◌≤◌, ◌++◌, map, reverse, vec_len, vec_capacity}
use Rattle.buzhash_cut.proofs.workers.dismiss.Given as goal

-- the views of the workers after these are taken back
abbrev pub invariant-loop-worker : goal.invariant-loop-worker
invariant-loop-worker g l = record {
  views : l.views.items ++ reverse (map (λ w. w.view) l.workers.items) ≡ reverse (map (λ w. w.view) l.fn.workers.items);
  room : vec_len l.views + vec_len l.workers ≤ vec_capacity l.views;
}

abbrev pub decreases-loop-worker : goal.decreases-loop-worker
decreases-loop-worker g l = goal.left-loop-worker g l
