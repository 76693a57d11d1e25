use Rattle.std.proofs.Common.{◌≡◌, ◌≤◌, Bor, List, ℕ, false, length, map, sym, subst, ap, ◌∙◌, arith}
use Rattle.std.proofs.lemmas.List.{length-map}
use Rattle.std.specs.List.{list_any}
use Rattle.command_line.specs.Judging.{RefusesWords, is_empty, parts_refusal, stores_named}
use Rattle.command_words.specs.Locations.{parts_of}
use Rattle.command_line.proofs.Stores.{judges}
use Rattle.command_line.proofs.locations.judge_group.Goals as goal

pub returns : goal.returns
returns c =
    let words : List (Bor (List ℕ)) → List (List ℕ) = map (λ p. p.now) in
    let parts = c.in-Ok.parts.items in
    let all : words parts ≡ parts_of c.args.word.now = c.in-Ok.ensures in
    let le : length (parts_of c.args.word.now) ≤ c.room_after.result = omega (arith, c.if-len-room_after.false, c.len.ensures, length-map parts (λ p. p.now), ap length all) in
    let is : list_any is_empty (parts_of c.args.word.now) ≡ false
    = ap (list_any is_empty) (sym all ∙ ap words (sym c.as_slice.ensures.value)) ∙ sym c.has_empty.ensures ∙ c.if-has_empty.false in
    subst (λ r. RefusesWords r c.judge_parts.result) (sym (judges (stores_named c.args.before.now) c.room_after.result c.args.word.now c.room_after.ensures le is))
    (subst (λ ws. RefusesWords (parts_refusal ws) c.judge_parts.result) (ap words c.as_slice-2.ensures.value ∙ all) c.judge_parts.ensures)
