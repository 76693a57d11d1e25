use Rattle.std.proofs.Common.{◌≡◌, ℕ, All, List, Ok, Err, inr, map, refl, subst, sym}
use Rattle.std.proofs.lemmas.Result.{err_from_is_err_and}
use Rattle.store_commands.specs.VerifyIndex.{ImageChecked}
use Rattle.store_commands.proofs.verify_index.check_image.Goals as goal

pub check_opened-requires-clause-named : goal.check_opened-requires-clause-named
check_opened-requires-clause-named g c κs within =
    let view = c.in_ok-opened.ensures in
    subst (λ (n : List ℕ). All (λ h. h.name ≡ n) (map g.F.View.View.held c.in_ok-opened.opened.others.items)) (sym view.fresh.1) view.named

pub returns-in_err-check_opened : goal.returns-in_err-check_opened
returns-in_err-check_opened g c =
    let p = err_from_is_err_and c.from_residual-in_err-check_opened.result c.from_residual-in_err-check_opened.ensures.1 in
    let listed = c.in_ok-listed.ensures in
    let view = c.in_ok-opened.ensures in
    let check = c.in_err-check_opened.ensures in
    let at = g.F.Files.disk in
    let checked = subst (λ (n : List ℕ). ImageChecked n c.in_ok-listed.listed (g.F.View.View.held c.in_ok-opened.opened.first).bytes (at c.open_for.new.files) (Err c.in_err-check_opened.field-0.0) (at c.check_opened.new.files)) view.fresh.1 (check.checked, check.kept) in
    record { ends = λ o. rw (p.1, p.2) (inr (record { disk = _; dial = _; out = _; gave = c.in_ok-listed.listed; did = (listed.ends, refl); then = inr (record { disk = _; dial = _; out = _; gave = _; did = ((view.ok, view.kept, view.used), refl, refl); then = (checked, refl, refl) }) })) }

pub returns : goal.returns
returns g c =
    let listed = c.in_ok-listed.ensures in
    let view = c.in_ok-opened.ensures in
    let check = c.in_ok-check_opened.ensures in
    let at = g.F.Files.disk in
    let checked = subst (λ (n : List ℕ). ImageChecked n c.in_ok-listed.listed (g.F.View.View.held c.in_ok-opened.opened.first).bytes (at c.open_for.new.files) (Ok tt) (at c.check_opened.new.files)) view.fresh.1 (check.checked, check.kept) in
    record { ends = λ o. record { disk = _; dial = _; out = _; gave = c.in_ok-listed.listed; did = (listed.ends, refl); then = record { disk = _; dial = _; out = _; gave = _; did = ((view.ok, view.kept, view.used), refl, refl); then = (checked, refl, refl) } } }
