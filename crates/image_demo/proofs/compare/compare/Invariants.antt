use Rattle.std.proofs.Common.{◌≡◌, ◌<◌, ℕ}
use Rattle.caibx_codec.specs.Listing.{slice_of}
use Rattle.image_demo.proofs.compare.compare.Given as goal

-- the first i entries are the same
abbrev pub invariant-loop-i : goal.invariant-loop-i
invariant-loop-i l = (j : ℕ) → j < l.i → slice_of l.index l.made j ≡ slice_of l.index l.image j
