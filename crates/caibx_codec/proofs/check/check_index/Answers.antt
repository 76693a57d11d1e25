use Rattle.std.proofs.Common.{◌≡◌, ◌++◌, List, ℕ, sym, subst, arith}
use Rattle.std.proofs.lemmas.List.{take-append-drop}
use Rattle.caibx_codec.specs.Checking.{IsJudgedTo}
use Rattle.caibx_codec.proofs.Checked.{checked, checked_faulty}
use Rattle.caibx_codec.proofs.check.check_index.Goals as goal

pub returns-in-Err : goal.returns-in-Err
returns-in-Err c =
    let rest = c.loop-rest.rest.now in
    let parts : rest ≡ c.split_at.result.0.now ++ c.split_at.result.1.now = rw (c.split_at.ensures.front, c.split_at.ensures.back) (sym (take-append-drop c.width-in-loop-rest.result rest)) in
    let judged : IsJudgedTo c.args.bytes.now (c.split_at.result.0.now ++ c.split_at.result.1.now) c.loop-rest.front = subst (λ (b : List ℕ). IsJudgedTo c.args.bytes.now b c.loop-rest.front) parts c.loop-rest.invariant.judged in
    record { exactly = checked_faulty (Unit {0}) c.args.bytes.now c.in-Err.fault (c.in-Err.ensures.value c.args.bytes.now c.split_at.result.1.now judged) }

pub returns : goal.returns
returns c = record {
  exactly = checked c.loop-rest.front c.args.bytes.now c.loop-rest.rest.now c.finish.result (λ i. omega (arith, c.type_inv.bytes i)) c.loop-rest.invariant.judged (omega (arith, c.loop-rest-test.false, c.width.ensures)) c.finish.ensures.value;
}
