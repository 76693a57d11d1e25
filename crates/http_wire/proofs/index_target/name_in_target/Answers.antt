use Rattle.std.proofs.Common.{List, ℕ, Option, sym, subst}
use Rattle.std.specs.Prelude.{◌≡◌, IfOk}
use Rattle.http_wire.proofs.IndexTargets.{name_in_target-none, name_in_target-slash, name_in_target-other}
use Rattle.http_wire.proofs.index_target.name_in_target.Goals as goal

pub returns-in_default : goal.returns-in_default
returns-in_default c = record { value = sym (name_in_target-none c.args.target.now c.in_default.ensures.cases) }

pub returns-then-slash-eq47 : goal.returns-then-slash-eq47
returns-then-slash-eq47 c =
    let is = name_in_target-slash c.args.target.now _ _ c.in-Some.ensures.cases.0 c.if-slash-eq47.true in
    record { value = rw is (c.name_at.ensures.value) }

pub returns-else-slash-eq47 : goal.returns-else-slash-eq47
returns-else-slash-eq47 c =
    record { value = sym (name_in_target-other c.args.target.now _ _ c.in-Some.ensures.cases.0 c.if-slash-eq47.false) }
