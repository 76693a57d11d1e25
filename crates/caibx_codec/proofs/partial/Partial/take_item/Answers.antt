use Rattle.std.proofs.Common.{◌≡◌, length, rules, sym, ◌∙◌, arith}
use Rattle.std.proofs.lemmas.List.{length-map}
use Rattle.std.proofs.lemmas.Result.{err_from_is_err_and}
use Rattle.caibx_codec.specs.Seen.{pair, read_of}
use Rattle.caibx_codec.proofs.Fronts.{end_goes, end_stops, id_goes, id_stops}
use Rattle.caibx_codec.proofs.partial.Partial.take_item.Goals as goal

pub returns-in-Err-clause-value : goal.returns-in-Err-clause-value
returns-in-Err-clause-value c =
    let items : c.len.result ≡ length c.self.inside.entries.items = search rules in
    end_stops _ (read_of c.self.inside) c.self.view_is c.requires.next c.requires.empty c.args.piece.now c.requires.size c.len.result c.number.result (items ∙ sym (length-map c.self.inside.entries.items pair)) c.number.ensures _ c.judge_end.ensures c.in-Err.fault c.in-Err.is

pub returns-in_default : goal.returns-in_default
returns-in_default c =
    let items : c.len.result ≡ length c.self.inside.entries.items = search rules in
    record {
      inside = (omega arith, omega (arith, c.requires.size));
      value = end_goes _ (read_of c.self.inside) c.self.view_is c.requires.next c.requires.empty c.args.piece.now c.requires.size c.len.result c.number.result (items ∙ sym (length-map c.self.inside.entries.items pair)) c.number.ensures _ c.judge_end.ensures c.in-Ok.fields c.in-Ok.is;
    }

pub returns-in_err-judge_id-clause-value : goal.returns-in_err-judge_id-clause-value
returns-in_err-judge_id-clause-value c =
    let items : c.len.result ≡ length c.self.inside.entries.items = search rules in
    let p = err_from_is_err_and c.from_residual.result c.from_residual.ensures.1 in
    rw (p.1, p.2) (id_stops _ (read_of c.self.inside) c.self.view_is c.requires.next c.requires.empty c.args.piece.now c.requires.size c.len.result c.number.result (items ∙ sym (length-map c.self.inside.entries.items pair)) c.number.ensures _ c.judge_end.ensures c.in-Ok.fields c.in-Ok.is c.in-Id.is _ c.in_err-judge_id.ensures)

pub returns-clause-value : goal.returns-clause-value
returns-clause-value c =
    let items : c.len.result ≡ length c.self.inside.entries.items = search rules in
    id_goes _ (read_of c.self.inside) c.self.view_is c.requires.next c.requires.empty c.args.piece.now c.requires.size c.len.result c.number.result (items ∙ sym (length-map c.self.inside.entries.items pair)) c.number.ensures _ c.judge_end.ensures c.in-Ok.fields c.in-Ok.is c.in-Id.is c.judge_id.new.self c.in_ok-judge_id.ensures
