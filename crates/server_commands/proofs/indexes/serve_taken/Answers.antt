use Rattle.std.proofs.Common.{◌≡◌, ◌∙◌, ℕ, Result, sym, subst, ap}
use Rattle.std.specs.Option.{option_map}
use Rattle.command_outcome.specs.declared.outcome.Outcome.{Outcome}
use Rattle.dsy_base.specs.Disk.{GivesFolder}
use Rattle.dsy_base.specs.Maps.{at_name}
use Rattle.index_server.specs.Answers.{index_folder}
use Rattle.index_server.specs.Talks.{index_protocol}
use Rattle.server_commands.proofs.Given.{serving_ends}
use Rattle.server_commands.specs.IndexServing.{IndexesServed}
use Rattle.server_commands.specs.Serving.{heard}
use Rattle.server_commands.proofs.indexes.serve_taken.Goals as goal

pub returns : goal.returns
returns g c =
    let state = g.L.Listen.state in
    let D = g.F.Folder.Look in
    let at = g.F.Files.disk in
    let h = heard D.never_fails (state c.args.listen.now) (state c.serve_in_turn-served.new.listen) in
    let held = D.files c.args.taken in
    let serve = c.serve_in_turn-served.ensures in
    let d = at c.args.files.now in
    let e = at c.give_folder.new.files in
    let q = c.args.folder.now in
    let old = c.new-desk.result in
    let left = index_folder D.files D.faults c.serve_in_turn-served.new.desk.folder in
    let is = c.new-desk.ensures.value in
    let first = ap (λ s. index_folder D.files D.faults s.folder) is ∙ ap (index_folder D.files D.faults) c.into_inner.ensures ∙ ap (λ (n : ℕ). record { files = held; faults = n }) c.requires.fresh in
    let given = c.new.ensures ∙ c.into_inner-2.ensures in
    let counts = subst (λ f. GivesFolder d e q (D.faults f)) given c.give_folder.ensures.counts in
    let folders = subst (λ f. e.folders ≡ option_map (λ m. at_name m q (D.files f)) d.folders) given c.give_folder.ensures.folders in
    subst (λ (r : Result Unit Outcome). IndexesServed h c.args.writable q held d r e) (sym c.ended.ensures)
    (rw (sym (ap (λ s. s.writable) is)) (serving_ends (index_protocol old.writable) h q held (index_folder D.files D.faults old.folder) left first d e counts folders c.serve_in_turn-served.result serve.end serve.served serve.failed (λ x. (serve.lacking x, serve.unfailed x))))
