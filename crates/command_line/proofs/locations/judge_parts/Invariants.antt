use Rattle.std.proofs.Common.{◌≡◌, map, drop}
use Rattle.command_line.specs.Judging.{parts_refusal}
use Rattle.command_line.proofs.locations.judge_parts.Given as goal

-- the parts that are left decide
abbrev pub invariant-loop-part : goal.invariant-loop-part
invariant-loop-part l = parts_refusal (drop l.part-index (map (λ p. p.now) l.parts)) ≡ parts_refusal (map (λ p. p.now) l.parts)
