use Rattle.std.proofs.Common.{◌≡◌, ◌<◌, List, ℕ, [], Err, map, length, rules, sym, subst, ◌∙◌, arith}
use Rattle.std.proofs.lemmas.List.{get_or-map, length-map}
use Rattle.command_line.specs.Judging.{RefusesWords, parts_refusal}
use Rattle.command_line.proofs.Stores.{part_passes, part_refused}
use Rattle.command_line.proofs.locations.judge_parts.Goals as goal

pub returns-in_err-judge_location : goal.returns-in_err-judge_location
returns-in_err-judge_location c =
    let words : List (List ℕ) = map (λ p. p.now) c.args.parts.now in
    let i = c.loop-part.part-index in
    let few = c.loop-part-test.true in
    let lt : i < length words = omega (arith, few, length-map c.args.parts.now (λ p. p.now)) in
    let answer : c.from_residual.result ≡ Err c.in_err-judge_location.field-0.0 = search rules in
    let is = get_or-map (λ p. p.now) c.args.parts.now i _ [] (omega (arith, few)) in
    subst (RefusesWords (parts_refusal words)) (sym answer)
    (part_refused words i _ c.in_err-judge_location.field-0.0 lt (sym is) c.in_err-judge_location.ensures c.loop-part.invariant)

pub loop-part-preserved : goal.loop-part-preserved
loop-part-preserved c =
    let words : List (List ℕ) = map (λ p. p.now) c.args.parts.now in
    let i = c.loop-part.part-index in
    let few = c.loop-part-test.true in
    let lt : i < length words = omega (arith, few, length-map c.args.parts.now (λ p. p.now)) in
    let is = get_or-map (λ p. p.now) c.args.parts.now i _ [] (omega (arith, few)) in
    part_passes words i _ lt (sym is) c.in_ok-judge_location.ensures ∙ c.loop-part.invariant
