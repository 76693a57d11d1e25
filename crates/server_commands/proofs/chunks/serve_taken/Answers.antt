use Rattle.std.proofs.Common.{◌≡◌, ◌∙◌, ℕ, true, Result, sym, subst, ap}
use Rattle.std.specs.Option.{option_map}
use Rattle.chunk_server.specs.Shelves.{shelved}
use Rattle.command_outcome.specs.declared.outcome.Outcome.{Outcome}
use Rattle.dsy_base.specs.Disk.{GivesFolder}
use Rattle.dsy_base.specs.Maps.{at_name}
use Rattle.server_commands.proofs.Given.{serving_ends, unserved}
use Rattle.server_commands.specs.ChunkServing.{ChunksServed, chunk_protocol}
use Rattle.server_commands.specs.Serving.{heard}
use Rattle.server_commands.proofs.chunks.serve_taken.Goals as goal

pub returns-in-Err : goal.returns-in-Err
returns-in-Err g c =
    let state = g.L.Listen.state in
    let D = g.F.Folder.Look in
    let at = g.F.Files.disk in
    let same = c.new.ensures ∙ c.in-Err.ensures.err ∙ c.into_inner.ensures in
    let taken = ap (shelved D.files D.faults) same ∙ ap (λ (n : ℕ). record { files = D.files c.args.taken; faults = n }) c.requires.fresh in
    unserved (chunk_protocol c.args.service.now.kind c.args.service.now.writable) D.never_fails (state c.args.listen.now) c.args.store.now (D.files c.args.taken) (shelved D.files D.faults c.new.result) taken (at c.args.files.now) (at c.give_folder.new.files) c.give_folder.ensures.counts c.give_folder.ensures.folders

pub returns : goal.returns
returns g c =
    let state = g.L.Listen.state in
    let D = g.F.Folder.Look in
    let at = g.F.Files.disk in
    let h = heard D.never_fails (state c.args.listen.now) (state c.serve_in_turn-served.new.listen) in
    let held = D.files c.args.taken in
    let serve = c.serve_in_turn-served.ensures in
    let d = at c.args.files.now in
    let e = at c.give_folder-2.new.files in
    let q = c.args.store.now in
    let kind = c.args.service.now.kind in
    let writable = c.args.service.now.writable in
    let old = c.in-Ok.shelf in
    let left = shelved D.files D.faults c.serve_in_turn-served.new.desk.folder in
    let is = c.in-Ok.ensures.ok in
    let first = ap (λ s. shelved D.files D.faults s.folder) is ∙ ap (shelved D.files D.faults) c.into_inner.ensures ∙ ap (λ (n : ℕ). record { files = held; faults = n }) c.requires.fresh in
    let given = c.new-2.ensures ∙ c.into_inner-2.ensures in
    let counts = subst (λ f. GivesFolder d e q (D.faults f)) given c.give_folder-2.ensures.counts in
    let folders = subst (λ f. e.folders ≡ option_map (λ m. at_name m q (D.files f)) d.folders) given c.give_folder-2.ensures.folders in
    subst (λ (r : Result Unit Outcome). ChunksServed kind true h writable q held d r e) (sym c.ended.ensures)
    (rw (sym (ap (λ s. s.kind) is), sym (ap (λ s. s.writable) is)) (serving_ends (chunk_protocol old.kind old.writable) h q held (shelved D.files D.faults old.folder) left first d e counts folders c.serve_in_turn-served.result serve.end serve.served serve.failed (λ x. (serve.lacking x, serve.unfailed x))))
