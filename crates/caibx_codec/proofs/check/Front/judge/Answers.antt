use Rattle.std.proofs.Common.{refl, ◌∙◌}
use Rattle.caibx_codec.proofs.Checked.{IsWord, end_word, other_word, id_passes, nothing_stops, word_passes, word_stops}
use Rattle.caibx_codec.proofs.check.Front.judge.Goals as goal
use Rattle.caibx_codec.proofs.check.Front.judge.Goals.{in-End, in_default}

pub returns-in-Id-clause-value : goal.returns-in-Id-clause-value
returns-in-Id-clause-value c = λ bytes left h. id_passes c.args.self c.args.field.now c.requires.size bytes left h _ c.in-Id.is refl refl

pub returns-in-Nothing-clause-value : goal.returns-in-Nothing-clause-value
returns-in-Nothing-clause-value c = λ bytes left h. nothing_stops c.args.self c.args.field.now c.requires.size bytes left h c.in-Nothing.is

pub returns-in-Ok-clause-value : goal.returns-in-Ok-clause-value
returns-in-Ok-clause-value c = λ bytes left h.
    let word : IsWord c.args.self c.args.field.now c.match-self.judged = elim c.match-self.branch [
      | in-End w ↦ end_word c.args.self c.args.field.now w.number.result c.match-self.judged w.in-End.is w.number.ensures (w.judged-is ∙ w.judge_end-judged.ensures)
      | in_default w ↦ other_word c.args.self c.args.field.now w.number-in_default.result c.match-self.judged w.in_default.not-Id w.in_default.not-Nothing w.number-in_default.ensures (w.judged-is ∙ w.judge_word-judged.ensures)
    ] in
    word_passes c.args.self c.args.field.now c.requires.size c.match-self.judged word bytes left h c.in-Ok.fields c.in-Ok.is

pub returns-in-Err-clause-value : goal.returns-in-Err-clause-value
returns-in-Err-clause-value c = λ bytes left h.
    let word : IsWord c.args.self c.args.field.now c.match-self.judged = elim c.match-self.branch [
      | in-End w ↦ end_word c.args.self c.args.field.now w.number.result c.match-self.judged w.in-End.is w.number.ensures (w.judged-is ∙ w.judge_end-judged.ensures)
      | in_default w ↦ other_word c.args.self c.args.field.now w.number-in_default.result c.match-self.judged w.in_default.not-Id w.in_default.not-Nothing w.number-in_default.ensures (w.judged-is ∙ w.judge_word-judged.ensures)
    ] in
    word_stops c.args.self c.args.field.now c.requires.size c.match-self.judged word bytes left h c.in-Err.fault c.in-Err.is
