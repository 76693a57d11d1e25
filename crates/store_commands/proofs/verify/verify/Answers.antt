use Rattle.std.proofs.Common.{inl, inr, refl}
use Rattle.std.proofs.lemmas.Result.{err_from_is_err_and}
use Rattle.store_commands.proofs.verify.verify.Goals as goal

pub returns-in_err-taken : goal.returns-in_err-taken
returns-in_err-taken g c =
    let p = err_from_is_err_and c.from_residual.result c.from_residual.ensures.1 in
    record { ends = λ k. rw (p.1, p.2) (inl (c.in_err-taken.ensures.err, refl, refl)) }

pub returns-in_err-verify_taken : goal.returns-in_err-verify_taken
returns-in_err-verify_taken g c =
    let p = err_from_is_err_and c.from_residual-in_err-verify_taken.result c.from_residual-in_err-verify_taken.ensures.1 in
    record { ends = λ k. rw (p.1, p.2) (inr (record { disk = _; dial = _; out = _; gave = _; did = (c.in_ok-taken.ensures.ok, refl, refl); then = c.in_err-verify_taken.ensures k })) }

pub returns : goal.returns
returns g c =
    record { ends = λ k. record { disk = _; dial = _; out = _; gave = _; did = (c.in_ok-taken.ensures.ok, refl, refl); then = c.in_ok-verify_taken.ensures k } }
