use Rattle.std.proofs.Common.{List, [], ℕ, Ok, Err, inr, refl, subst}
use Rattle.std.proofs.lemmas.Result.{err_from_is_err_and}
use Rattle.command_steps.specs.Stores.{StoreTaken}
use Rattle.server_commands.specs.IndexServing.{IndexesServed}
use Rattle.server_commands.specs.Serving.{heard}
use Rattle.server_commands.proofs.indexes.index_server.Goals as goal

pub returns-in_err-serve_taken : goal.returns-in_err-serve_taken
returns-in_err-serve_taken g c =
    let p = err_from_is_err_and c.from_residual-in_err-serve_taken.result c.from_residual-in_err-serve_taken.ensures.1 in
    let state = g.L.Listen.state in
    let at = g.F.Files.disk in
    let took = c.in_ok-taken.ensures in
    let held = g.F.Folder.Look.files c.in_ok-taken.taken in
    let h = heard g.F.Folder.Look.never_fails (state c.args.listen.now) (state c.serve_taken.new.listen) in
    let taken = subst (λ (q : List ℕ). StoreTaken [] q (at c.args.files.now) (Ok held) (at c.take_folder.new.files)) c.as_str.ensures (took.ok.found, took.changed, took.used) in
    let served = subst (λ (q : List ℕ). IndexesServed h c.args.writable q held (at c.take_folder.new.files) (Err c.in_err-serve_taken.field-0.0) (at c.serve_taken.new.files)) c.as_str-2.ensures c.in_err-serve_taken.ensures in
    record { ends = λ k o. rw (p.1, p.2) (inr (record { disk = _; dial = _; out = _; gave = held; did = (taken, refl, refl); then = (served, refl, refl) })) }
