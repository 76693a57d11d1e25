use Rattle.std.proofs.Common.{◌≡◌, take}
use Rattle.std.specs.List.{sum_by}
use Rattle.dsy_base.specs.Counts.{raised}
use Rattle.byte_forms.proofs.mem_target.gather.Given as goal

-- the faults of the parts so far are counted
abbrev pub invariant-loop-part : goal.invariant-loop-part
invariant-loop-part l = l.faults ≡ raised l.count (sum_by (λ p. p.faults) (take l.part-index l.parts))
