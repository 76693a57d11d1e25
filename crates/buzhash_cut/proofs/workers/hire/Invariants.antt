use Rattle.std.proofs.Common.{◌≡◌, ◌+◌, ◌≤◌, ◌++◌, map, reverse, vec_len, vec_capacity, All}
use Rattle.buzhash_cut.specs.Runs.{IsReady}
use Rattle.buzhash_cut.proofs.workers.hire.Given as goal

-- the views before these have workers
abbrev pub invariant-loop-view : goal.invariant-loop-view
invariant-loop-view g l = record {
  views : l.views.items ++ reverse (map (λ w. w.view) l.workers.items) ≡ l.fn.views.items;
  room : (vec_len l.views + vec_len l.workers ≤ vec_capacity l.workers) × (vec_capacity l.views ≡ vec_capacity l.fn.views);
  count : vec_len l.views + vec_len l.workers ≡ vec_len l.fn.views;
  ready : All (IsReady g.V.View.held l.kind l.sizes) l.workers.items;
}

abbrev pub decreases-loop-view : goal.decreases-loop-view
decreases-loop-view g l = goal.left-loop-view g l
