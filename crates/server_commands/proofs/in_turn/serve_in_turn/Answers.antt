use Rattle.std.proofs.Common.{◌≡◌, ◌∙◌, Ok, Err, ap, inl, refl, arith, rules, sym}
use Rattle.command_steps.proofs.Numbers.{rose_later}
use Rattle.dsy_base.specs.declared.fault.IoFault.TheVariants as io
use Rattle.server_commands.proofs.Listened.{lacking_as, listens_more, listens_none, listens_still, runs_out, served_as}
use Rattle.server_commands.proofs.in_turn.serve_in_turn.Goals as goal

pub returns-in_err-bind-clause-failed : goal.returns-in_err-bind-clause-failed
returns-in_err-bind-clause-failed g c = λ h.
    let state = g.L.Listen.state in
    let answer : c.from_residual.result ≡ Err c.in_err-bind.field-0.0 = search rules in
    let old = g.S.Service.state c.args.desk.now in (
      c.in_err-bind.ensures.faults.cause (sym answer ∙ h),
      listens_none (g.S.Service.protocol (g.S.Service.setting c.args.desk.now)) (state c.args.listen.now) (state c.bind.new.self) old old (record { coming = c.bind.ensures.coming; ended = c.bind.ensures.ended }) refl,
    )

pub returns-in_err-bind-clause-lacking : goal.returns-in_err-bind-clause-lacking
returns-in_err-bind-clause-lacking g c = λ h.
    let state = g.L.Listen.state in
    let old = g.S.Service.state c.args.desk.now in
    inl (listens_none (g.S.Service.protocol (g.S.Service.setting c.args.desk.now)) (state c.args.listen.now) (state c.bind.new.self) old old (record { coming = c.bind.ensures.coming; ended = c.bind.ensures.ended }) refl)

pub links-init : goal.links-init
links-init g c =
    let state = g.L.Listen.state in
    let old = g.S.Service.state c.args.desk.now in
    record {
      kept = refl;
      changed = g.met.S.Service.leaves_none c.args.desk.now;
      faults = c.bind.ensures.faults.never_falls;
      unfailed = search rules;
      listens = listens_none (g.S.Service.protocol (g.S.Service.setting c.args.desk.now)) (state c.args.listen.now) (state c.bind.new.self) old old (record { coming = c.bind.ensures.coming; ended = c.bind.ensures.ended }) refl;
    }

pub links-preserved : goal.links-preserved
links-preserved g c =
    let state = g.L.Listen.state in
    let desk = g.S.Service.state in
    let setting = g.S.Service.setting in
    let now = c.links.invariant in
    let next = c.serve_next.ensures in
    record {
      kept = next.kept ∙ now.kept;
      changed = g.met.S.Service.leaves_more c.args.desk.now c.links.desk c.serve_next.new.desk now.changed next.changed;
      faults = omega (arith, next.faults, now.faults);
      unfailed = c.in-Ok-true.ensures.unfailed (λ e. absurd (cc)) ∙ now.unfailed;
      listens = listens_more (g.S.Service.protocol (setting c.args.desk.now)) (state c.args.listen.now) (state c.links.listen) (state c.serve_next.new.listen) (desk c.args.desk.now) (desk c.links.desk) (desk c.serve_next.new.desk) now.listens
          (served_as g.S.Service.protocol (setting c.args.desk.now) (setting c.links.desk) now.kept (state c.links.listen) (state c.serve_next.new.listen) (desk c.links.desk) (desk c.serve_next.new.desk) (next.served (c.in-Ok-true.is ∙ ap Ok c.in-Ok-true.field-0-test)));
    }

pub returns-in-Ok-false-clause-served : goal.returns-in-Ok-false-clause-served
returns-in-Ok-false-clause-served g c =
    let state = g.L.Listen.state in
    let desk = g.S.Service.state in
    let over = c.serve_next.ensures.end (c.in-Ok-false.is ∙ ap Ok c.in-Ok-false.field-0-test) in
    listens_still (g.S.Service.protocol (g.S.Service.setting c.args.desk.now)) (state c.args.listen.now) (state c.links.listen) (state c.serve_next.new.listen) (desk c.args.desk.now) (desk c.links.desk) (desk c.serve_next.new.desk) c.links.invariant.listens over.1 over.2

pub returns-in-Err-clause-failed : goal.returns-in-Err-clause-failed
returns-in-Err-clause-failed g c = λ h.
    let state = g.L.Listen.state in
    let desk = g.S.Service.state in
    let failed : c.in-Err.fault ≡ io.Failed = cc in
    let over = c.serve_next.ensures.failed (c.in-Err.is ∙ ap Err failed) in (
      rose_later (state c.args.listen.now).faults (state c.links.listen).faults (state c.serve_next.new.listen).faults c.links.invariant.faults over.0,
      listens_still (g.S.Service.protocol (g.S.Service.setting c.args.desk.now)) (state c.args.listen.now) (state c.links.listen) (state c.serve_next.new.listen) (desk c.args.desk.now) (desk c.links.desk) (desk c.serve_next.new.desk) c.links.invariant.listens over.1 over.2,
    )

pub returns-in-Err-clause-lacking : goal.returns-in-Err-clause-lacking
returns-in-Err-clause-lacking g c = λ h.
    let state = g.L.Listen.state in
    let desk = g.S.Service.state in
    let setting = g.S.Service.setting in
    let lacking : c.in-Err.fault ≡ io.Memory = cc in
    runs_out (g.S.Service.protocol (setting c.args.desk.now)) (state c.args.listen.now) (state c.links.listen) (state c.serve_next.new.listen) (desk c.args.desk.now) (desk c.links.desk) (desk c.serve_next.new.desk) c.links.invariant.listens
    (lacking_as g.S.Service.protocol (setting c.args.desk.now) (setting c.links.desk) c.links.invariant.kept (state c.links.listen) (state c.serve_next.new.listen) (desk c.links.desk) (desk c.serve_next.new.desk) (c.serve_next.ensures.lacking (c.in-Err.is ∙ ap Err lacking)))

pub returns-clause-lacking : goal.returns-clause-lacking
returns-clause-lacking g c = λ h. inl c.links.invariant.listens
