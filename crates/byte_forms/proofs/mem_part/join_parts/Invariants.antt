use Rattle.std.proofs.Common.{◌≡◌, length, take}
use Rattle.std.specs.List.{sum_by}
use Rattle.dsy_base.specs.Splits.{joined}
use Rattle.byte_forms.proofs.mem_part.join_parts.Given as goal

-- the bytes of the parts so far stand in front
abbrev pub invariant-loop-part : goal.invariant-loop-part
invariant-loop-part g l =
    (take l.at l.bytes ≡ joined (λ p. g.P.View.held p) (take l.part-index l.parts))
    × (l.at ≡ sum_by (λ p. (g.P.View.held p).size) (take l.part-index l.parts))
    × (length l.bytes ≡ sum_by (λ p. (g.P.View.held p).size) l.parts)
