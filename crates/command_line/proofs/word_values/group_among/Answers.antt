use Rattle.std.proofs.Common.{◌≡◌, ◌<◌, List, ℕ, [], ◌∷◌, ◌++◌, map, take, get_or, length, sym, ap, ap₂, ◌∙◌, arith}
use Rattle.std.proofs.lemmas.List.{get_or-map, length-map, map_more}
use Rattle.command_line.specs.CommandLine.{read_location}
use Rattle.command_words.specs.declared.command.Location.{Location}
use Rattle.command_words.specs.Locations.{location_of}
use Rattle.command_line.proofs.word_values.group_among.Goals as goal

pub loop-part-preserved : goal.loop-part-preserved
loop-part-preserved c =
    let words : List (List ℕ) = map (λ p. p.now) c.args.parts.now in
    let i = c.loop-part.part-index in
    let few = c.loop-part-test.true in
    let lt : i < length words = omega (arith, few, length-map c.args.parts.now (λ p. p.now)) in
    let is = get_or-map (λ p. p.now) c.args.parts.now i _ [] (omega (arith, few)) in
    let read : List ℕ → Location = λ w. read_location (location_of w) in
    let before : List Location = map read (take i words) in
    let pushed : c.push.new.self.items ≡ before ++ read (get_or words i []) ∷ []
    = c.in_ok-push.ensures.items ∙ ap₂ (λ (ls : List Location) (l : Location). ls ++ l ∷ []) c.loop-part.invariant (c.in_ok-checked_location.ensures ∙ ap read (sym is)) in
    pushed ∙ sym (map_more read words i [] lt)
