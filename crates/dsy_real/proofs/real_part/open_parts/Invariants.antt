use Rattle.std.proofs.Common.{◌≡◌, ◌++◌, None, map, drop}
use Rattle.std.specs.List.{All}
use Rattle.dsy_base.specs.Splits.{IsCuts, extents}
use Rattle.dsy_real.specs.FileParts.{part_extent}
use Rattle.dsy_real.proofs.real_part.open_parts.Given as goal

-- the parts so far, and those between the cuts that are left
abbrev pub invariant-loop-cut : goal.invariant-loop-cut
invariant-loop-cut g l =
    (map part_extent l.parts.items ++ extents None l.from (drop l.cut-index l.cuts) ≡ extents None 0 l.cuts)
    × IsCuts l.from (drop l.cut-index l.cuts) l.size
    × All (λ p. p.faults ≡ 0) l.parts.items
