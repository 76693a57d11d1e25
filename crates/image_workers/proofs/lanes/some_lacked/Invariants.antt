use Rattle.std.proofs.Common.{◌≡◌, ℕ, ◌<◌, slice_index_or, false}
use Rattle.image_workers.specs.declared.lanes.Lane.{Lane}
use Rattle.image_workers.proofs.lanes.some_lacked.Given as goal

-- none of those before lacked memory
abbrev pub invariant-loop-lane : goal.invariant-loop-lane
invariant-loop-lane g l = (k : ℕ) (a : Lane g.row.S.Denot g.row.V.Denot) → k < l.lane-index → (slice_index_or l.lanes k a).lacked ≡ false
