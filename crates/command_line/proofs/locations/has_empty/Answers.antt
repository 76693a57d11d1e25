use Rattle.std.proofs.Common.{◌||◌, ◌+◌, map, drop, sym, ap, ◌∙◌, arith}
use Rattle.std.specs.List.{list_any}
use Rattle.command_line.specs.Judging.{is_empty}
use Rattle.command_line.proofs.Stores.{empty_from}
use Rattle.command_line.proofs.locations.has_empty.Goals as goal

pub returns-then-is_empty : goal.returns-then-is_empty
returns-then-is_empty c =
    let rest = list_any is_empty (drop (c.loop-part.part-index + 1) (map (λ p. p.now) c.args.parts.now)) in
    let is = sym c.is_empty.ensures ∙ c.if-is_empty.true in
    sym (sym c.loop-part.invariant ∙ empty_from c.args.parts.now c.loop-part.part-index _ (omega (arith, c.loop-part-test.true)) ∙ ap (λ b. b || rest) is)

pub loop-part-preserved : goal.loop-part-preserved
loop-part-preserved c =
    let rest = list_any is_empty (drop (c.loop-part.part-index + 1) (map (λ p. p.now) c.args.parts.now)) in
    let is = sym c.is_empty.ensures ∙ c.if-is_empty.false in
    sym (ap (λ b. b || rest) is) ∙ sym (empty_from c.args.parts.now c.loop-part.part-index _ (omega (arith, c.loop-part-test.true))) ∙ c.loop-part.invariant
