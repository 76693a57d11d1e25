use Rattle.std.proofs.Common.{◌==◌, List, [], ℕ, Ok, Err, inr, refl, subst}
use Rattle.std.proofs.lemmas.Result.{err_from_is_err_and}
use Rattle.command_steps.specs.Stores.{StoreTaken}
use Rattle.server_commands.specs.ChunkServing.{ChunksServed}
use Rattle.server_commands.specs.Serving.{heard}
use Rattle.server_commands.proofs.chunks.chunk_server.Goals as goal

pub returns-in_err-serve_by : goal.returns-in_err-serve_by
returns-in_err-serve_by g c =
    let p = err_from_is_err_and c.from_residual-in_err-serve_by.result c.from_residual-in_err-serve_by.ensures.1 in
    let state = g.L.Listen.state in
    let at = g.F.Files.disk in
    let took = c.in_ok-taken.ensures in
    let held = g.F.Folder.Look.files c.in_ok-taken.taken in
    let h = heard g.F.Folder.Look.never_fails (state c.args.listen.now) (state c.serve_by.new.listen) in
    let taken = subst (λ (q : List ℕ). StoreTaken [] q (at c.args.files.now) (Ok held) (at c.take_folder.new.files)) c.as_str.ensures (took.ok.found, took.changed, took.used) in
    let served = subst (λ (q : List ℕ). ChunksServed c.args.service.kind (c.args.service.workers == 1) h c.args.service.writable q held (at c.take_folder.new.files) (Err c.in_err-serve_by.field-0.0) (at c.serve_by.new.files)) c.as_str-2.ensures c.in_err-serve_by.ensures in
    record { ends = λ k o. rw (p.1, p.2) (inr (record { disk = _; dial = _; out = _; gave = held; did = (taken, refl, refl); then = (served, refl, refl) })) }
