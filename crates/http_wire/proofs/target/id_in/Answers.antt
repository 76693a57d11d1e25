use Rattle.std.proofs.Common.{sym, ◌∙◌}
use Rattle.http_wire.proofs.Targets.{id_in-none, id_in-slash, id_in-other}
use Rattle.http_wire.proofs.target.id_in.Goals as goal

pub returns-in_err-slash : goal.returns-in_err-slash
returns-in_err-slash c =
    let none = id_in-none c.args.target.now c.in_err-slash.ensures.cases in
    record { value = rw c.from_residual.ensures (sym none) }

pub returns-then-slash-eq47 : goal.returns-then-slash-eq47
returns-then-slash-eq47 c =
    record { value = c.id_at.ensures ∙ sym (id_in-slash c.args.target.now _ _ c.in_ok-slash.ensures.cases.0 c.if-slash-eq47.true) }

pub returns-else-slash-eq47 : goal.returns-else-slash-eq47
returns-else-slash-eq47 c =
    record { value = sym (id_in-other c.args.target.now _ _ c.in_ok-slash.ensures.cases.0 c.if-slash-eq47.false) }
