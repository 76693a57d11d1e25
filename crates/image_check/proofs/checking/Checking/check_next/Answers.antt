use Rattle.std.proofs.Common.{◌≡◌, ◌+◌, Result, Err, ap, sym, refl, rules, subst, ◌∙◌}
use Rattle.image_check.proofs.Checked.{check_stops, checking_next}
use Rattle.image_check.specs.CheckProgress.{ChecksOn}
use Rattle.image_check.specs.declared.check.CheckFault.{CheckFault}
use Rattle.image_check.specs.declared.checking.Checking.{Checking}
use Rattle.image_check.proofs.checking.Checking.check_next.Goals as goal

pub returns-in_err-see_next-clause-on : goal.returns-in_err-see_next-clause-on
returns-in_err-see_next-clause-on g c =
    let l = c.args.index.now in
    let a = c.args.self.now in
    let b = c.see_next.new.self in
    let is = c.requires.checking in
    let held = g.V.View.held a.view in
    let fault = c.in_err-see_next.field-0.0 in
    let done = c.in_err-see_next.ensures in
    let answer : c.from_residual.result ≡ Err fault = search rules in
    subst (λ (r : Result Unit CheckFault). ChecksOn g.V.View l a b r) (sym answer) (record {
      next = tt;
      ends = check_stops l held.bytes a.at held.size fault c.requires.more (sym is.size) done.wrong is.before;
      kept = done.kept;
      faults = done.faults;
    })

pub returns-clause-on : goal.returns-clause-on
returns-clause-on g c =
    let l = c.args.index.now in
    let a = c.args.self.now in
    let done = c.in_ok-see_next.ensures in
    let now = c.see_next.new.self in
    let b : Checking g.row.V.Denot = record { view = now.view; buf = now.buf; at = now.at + 1 } in
    record {
      next = checking_next g.V.View l a b c.requires.checking c.requires.more (ap (λ n. n + 1) done.at) done.kept done.room done.right;
      ends = tt;
      kept = done.kept;
      faults = done.faults;
    }
