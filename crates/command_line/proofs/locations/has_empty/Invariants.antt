use Rattle.std.proofs.Common.{◌≡◌, map, drop}
use Rattle.std.specs.List.{list_any}
use Rattle.command_line.specs.Judging.{is_empty}
use Rattle.command_line.proofs.locations.has_empty.Given as goal

-- one is empty exactly where one of the rest is
abbrev pub invariant-loop-part : goal.invariant-loop-part
invariant-loop-part l = list_any is_empty (drop l.part-index (map (λ p. p.now) l.parts)) ≡ list_any is_empty (map (λ p. p.now) l.parts)
