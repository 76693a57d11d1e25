use Rattle.std.proofs.Common.{◌≡◌, ℕ, ◌<◌, ◌≤◌, true, false, Some, length, get_or, sym, ap, ◌∙◌, arith, rules}
use Rattle.std.proofs.lemmas.Grind.{common_steps}
use Rattle.extract_plan.specs.Keys.{has_key}
use Rattle.extract_plan.specs.declared.keyed.ChunkKey.{ChunkKey}
use Rattle.extract_plan.specs.declared.keyed.Keyed.{Keyed}
use Rattle.extract_plan.proofs.KeyOrder.{found_here, found_nowhere, rank, rank_before, rank_not_before}
use Rattle.extract_plan.proofs.keyed.number_in.Goals as goal

pub returns-in-Some : goal.returns-in-Some
returns-in-Some c =
    let xs = c.args.sorted.now in
    let key : ChunkKey = record { id = c.args.id.now; size = c.args.size } in
    let at = c.place_of.result in
    let x = c.in-Some.found.now in
    let inside : at < length xs = first_of (search rules, omega arith) in
    let here : get_or xs at x ≡ x = first_of (search rules, grind (arith, common_steps)) in
    let same : has_key key.id.0 key.size x ≡ true = sym c.eq.ensures ∙ c.if-eq.true in
    let low : (j : ℕ) → j < at → rank key (get_or xs j x) ≡ 0 = λ j a. rank_before _ (c.place_of.ensures.below j x a) in
    sym (found_here xs key c.requires at x inside (λ j a one. absurd (omega (arith, low j a))) (ap (has_key key.id.0 key.size) here ∙ same) ∙ ap (λ (y : Keyed). Some y.number) here)

pub returns-in_default : goal.returns-in_default
returns-in_default c =
    let xs = c.args.sorted.now in
    let key : ChunkKey = record { id = c.args.id.now; size = c.args.size } in
    let at = c.place_of.result in
    let x = c.in-Some.found.now in
    let here : get_or xs at x ≡ x = first_of (search rules, grind (arith, common_steps)) in
    let other : has_key key.id.0 key.size x ≡ false = sym c.eq.ensures ∙ c.if-eq.false in
    sym (found_nowhere xs key c.requires at x (λ j a. rank_before _ (c.place_of.ensures.below j x a))
    (λ inside. (rank_not_before _ (c.place_of.ensures.above x inside), ap (has_key key.id.0 key.size) here ∙ other)))

pub returns-in_default-2 : goal.returns-in_default-2
returns-in_default-2 c =
    let xs = c.args.sorted.now in
    let key : ChunkKey = record { id = c.args.id.now; size = c.args.size } in
    let at = c.place_of.result in
    let past : length xs ≤ at = first_of (search rules, omega arith) in
    let x : Keyed = record { key = key; number = 0 } in
    sym (found_nowhere xs key c.requires at x (λ j a. rank_before _ (c.place_of.ensures.below j x a)) (λ inside. absurd (omega arith)))
