use Rattle.std.proofs.Common.{ℕ, ◌<◌, List, slice_index_or}
use Rattle.image_slices.specs.Ahead.{HasSlice}
use Rattle.image_slices.specs.declared.ahead.Ahead.{Ahead}
use Rattle.image_slices.proofs.ahead.slice_among.Given as goal

-- none of the rooms before this one has the slice
abbrev pub invariant-loop-ahead : goal.invariant-loop-ahead
invariant-loop-ahead l = (k : ℕ) (d : Ahead) → k < l.ahead-index → (b : List ℕ) → HasSlice l.index (slice_index_or l.rooms k d) l.i b → ⊥
