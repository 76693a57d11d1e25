use Rattle.std.proofs.Common.{◌≡◌, ◌≢◌, ◌∙◌, true, false, is_some, IfSome, Result, sym, subst}
use Rattle.std.specs.Option.{option_map}
use Rattle.command_outcome.specs.declared.outcome.Outcome.{Outcome}
use Rattle.dsy_base.specs.Disk.{GivesFolder}
use Rattle.dsy_base.specs.Maps.{at_name}
use Rattle.locked_shelf.specs.Endings.{EndsOver}
use Rattle.locked_shelf.specs.Keepings.{KeepsOpening}
use Rattle.locked_shelf.specs.Listening.{ServesAll, ServesSome}
use Rattle.locked_shelf.specs.declared.serve_all.AllServed.TheVariants as shared
use Rattle.server_commands.proofs.Shared.{sharing_ends}
use Rattle.server_commands.specs.ChunkServing.{ChunksServed}
use Rattle.server_commands.specs.Serving.{heard}
use Rattle.server_commands.proofs.chunks.share_taken.Goals as goal

pub returns : goal.returns
returns g c =
    let state = g.L.Listen.state in
    let D = g.F.Folder.Look in
    let at = g.F.Files.disk in
    let h = heard D.never_fails (state c.args.listen.now) (state c.serve_folder-folder.new.listen) in
    let held = D.files c.args.taken in
    let serve = c.serve_folder-folder.ensures in
    let d = at c.args.files.now in
    let e = at c.give_folder.new.files in
    let q = c.args.store.now in
    let given = c.new.ensures in
    let counts = subst (λ f. GivesFolder d e q (D.faults f)) given c.give_folder.ensures.counts in
    let folders = subst (λ f. e.folders ≡ option_map (λ m. at_name m q (D.files f)) d.folders) given c.give_folder.ensures.folders in
    let tells = λ (is : is_some (state c.args.listen.now).coming ≡ true). g.met.L.Listen.alike (sym (g.met.L.Listen.told c.args.listen.now).0 ∙ is) in
    let kind = c.args.service.now.kind in
    let writable = c.args.service.now.writable in
    let folder = c.serve_folder-folder.result.0 in
    let r = c.serve_folder-folder.result.1 in
    let same = c.into_inner.ensures in
    let kept = subst (λ f. IfSome (D.files f) (λ first. KeepsOpening kind first (D.files folder))) same serve.kept in
    let served = subst (λ f. r ≢ shared.Short → r ≢ shared.Memory → ServesAll (EndsOver kind (D.files f) D.never_fails writable g.L.Link.Link.tells) h.old h.new) same serve.served in
    let lacking = subst (λ f. ServesSome (EndsOver kind (D.files f) D.never_fails writable g.L.Link.Link.tells) h.old h.new) same serve.lacking in
    subst (λ (o : Result Unit Outcome). ChunksServed kind false h writable q held d o e) (sym c.all_ended.ensures)
    (sharing_ends D.files D.faults kind h writable q held folder d e counts folders g.L.Link.Link.tells tells kept r serve.end served lacking serve.cause)
