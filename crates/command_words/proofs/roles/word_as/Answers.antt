use Rattle.std.proofs.Common.{◌<◌, List, ℕ, length, map, string_bytes, sym, ap₂, get_or, [], ◌∙◌, arith}
use Rattle.std.proofs.lemmas.List.{length-map}
use Rattle.command_words.proofs.Lists.{word_taken, word_left, skip_one}
use Rattle.command_words.proofs.roles.word_as.Goals.{then-number+else-left-eq0, else-number}
use Rattle.command_words.proofs.roles.word_as.Goals as goal

pub loop-i-preserved : goal.loop-i-preserved
loop-i-preserved c =
    let bytes : List (List ℕ) = map string_bytes c.args.words.now in
    let a : c.loop-i.i < length c.args.roles.now = omega (arith, c.requires) in
    let b : c.loop-i.i < length bytes = omega (arith, length-map c.args.words.now string_bytes) in
    elim c.if-number.branch [
      | then-number+else-left-eq0 w ↦
          let e = word_taken c.args.role _ c.args.roles.now bytes c.loop-i.i a b (sym c.number.ensures ∙ w.if-number.true ∙ c.number-number.ensures) in
          skip_one _ _ _ c.loop-i.left c.if-number.left e (omega (arith, w.left-is)) ∙ c.loop-i.invariant
      | else-number w ↦
          let e = word_left c.args.role _ c.args.roles.now bytes c.loop-i.i a b (λ same. w.if-number.false (c.number.ensures ∙ same ∙ sym c.number-number.ensures)) in
          ap₂ (λ l k. get_or l k []) (sym e) w.left-is ∙ c.loop-i.invariant
    ]
