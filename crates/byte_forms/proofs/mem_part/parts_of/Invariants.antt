use Rattle.std.proofs.Common.{◌≡◌, ◌++◌, Some, length, map, drop}
use Rattle.std.specs.List.{All}
use Rattle.dsy_base.specs.Splits.{IsCuts, extent, extents}
use Rattle.byte_forms.proofs.mem_part.parts_of.Given as goal

-- the parts so far, and those between the cuts that are left
abbrev pub invariant-loop-cut : goal.invariant-loop-cut
invariant-loop-cut g l =
    (map (λ p. extent (g.P.View.held p)) l.parts.items ++ extents (Some l.bytes) l.from (drop l.cut-index l.cuts) ≡ extents (Some l.bytes) 0 l.cuts)
    × IsCuts l.from (drop l.cut-index l.cuts) (length l.bytes)
    × All (λ p. g.P.View.faults p ≡ 0) l.parts.items
