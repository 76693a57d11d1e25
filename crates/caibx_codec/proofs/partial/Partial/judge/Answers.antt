use Rattle.std.proofs.Common.{◌≡◌, length, rules, sym, ◌∙◌}
use Rattle.std.proofs.lemmas.List.{length-map}
use Rattle.caibx_codec.specs.Seen.{pair, read_of}
use Rattle.caibx_codec.proofs.Fields.{word_passes, word_fails}
use Rattle.caibx_codec.proofs.partial.Partial.judge.Goals as goal

pub returns-in-Err : goal.returns-in-Err
returns-in-Err c =
    let items : c.len.result ≡ length c.self.inside.entries.items = search rules in
    word_fails _ (read_of c.self.inside) c.self.view_is c.args.bytes.now c.len.result c.number.result (items ∙ sym (length-map c.self.inside.entries.items pair)) c.number.ensures c.in_default.not-Id c.in_default.not-Nothing _ c.in-Err.fault c.judge_word.ensures c.in-Err.is

pub returns-in-Ok : goal.returns-in-Ok
returns-in-Ok c =
    let items : c.len.result ≡ length c.self.inside.entries.items = search rules in
    word_passes _ (read_of c.self.inside) c.self.view_is c.args.bytes.now c.len.result c.number.result (items ∙ sym (length-map c.self.inside.entries.items pair)) c.number.ensures c.in_default.not-Id c.in_default.not-Nothing _ c.in-Ok.fields c.judge_word.ensures c.in-Ok.is
