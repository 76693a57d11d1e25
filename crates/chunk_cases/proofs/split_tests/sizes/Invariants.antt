use Rattle.std.proofs.Common.{◌≡◌, take}
use Rattle.std.specs.List.{sum_by}
use Rattle.chunk_cases.proofs.split_tests.sizes.Given as goal

-- the sizes of the parts so far
abbrev pub invariant-loop-part : goal.invariant-loop-part
invariant-loop-part g l = l.total ≡ sum_by (λ p. (g.P.View.held p).size) (take l.part-index l.parts)
