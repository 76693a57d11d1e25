use Rattle.std.proofs.Common.{◌≡◌, ℕ, List, Option, Some, None, Result, Ok, ap, subst, ◌∙◌}
use Rattle.std.specs.Prelude.{IfOk, IfSome}
use Rattle.dsy_base.specs.declared.fault.IoFault.{IoFault}
use Rattle.index_server.specs.Answers.{index_held}
use Rattle.index_server.proofs.Answered.{none_by, read_goes}
use Rattle.index_server.proofs.state.ReadMethod.reply.Goals as goal

pub returns-in-Ok-Some-clause-ok : goal.returns-in-Ok-Some-clause-ok
returns-in-Ok-Some-clause-ok c = λ old new name body finds.
    let is = c.in-Ok-Some.is ∙ ap Ok c.in-Ok-Some.field-0-is in
    read_goes old new c.args.self name body (Some c.in-Ok-Some.file) _
    (subst (λ (r : Result (Option (List ℕ)) IoFault). IfOk r (λ o. IfSome old.files (λ m. o ≡ index_held (m name)))) is finds.held)
    c.tell.ensures.value finds.kept finds.faults.never_falls

pub returns-in-Ok-None-clause-ok : goal.returns-in-Ok-None-clause-ok
returns-in-Ok-None-clause-ok c = λ old new name body finds.
    let is = c.in-Ok-None.is ∙ ap Ok c.in-Ok-None.field-0-is in
    read_goes old new c.args.self name body None _
    (subst (λ (r : Result (Option (List ℕ)) IoFault). IfOk r (λ o. IfSome old.files (λ m. o ≡ index_held (m name)))) is finds.held)
    (c.bare.ensures ∙ none_by c.args.self) finds.kept finds.faults.never_falls
