use Rattle.std.proofs.Common.{◌==◌, ◌∙◌, Some, arith, slice_index_or, sym}
use Rattle.cache_store.specs.Shelves.{shelf_of}
use Rattle.command_steps.proofs.Consulted.{reads_twice}
use Rattle.command_steps.specs.AnyStores.{source_faults}
use Rattle.command_steps.specs.Cache.{with_cache}
use Rattle.proxy_command.proofs.FolderBack.{known_after}
use Rattle.proxy_command.proofs.FolderLent.{and_true, folder_group_words, folders_hold, folders_lent, folders_many, folders_number, folders_sure}
use Rattle.proxy_command.proofs.OfFolders.{folder_chain}
use Rattle.proxy_command.proofs.Served.{both_tell, none_served, served_from, told_with}
use Rattle.proxy_command.proofs.serve_folders.serve_stores.Goals as goal
use Rattle.proxy_command.specs.ProxyServing.{look_types}
use Rattle.proxy_command.specs.Reaching.{chain_chunks, sure_by_types}
use Rattle.server_commands.specs.Serving.{heard}

pub folder_chains-requires : goal.folder_chains-requires
folder_chains-requires g c =
    let look = g.F.Look.Look in
    let d = g.F.Files.disk c.args.files.now in
    let reached = c.requires.reached in
    let words = c.args.words.now in
    record {
      chains = λ n x lt. folder_chain look.place d.folder_counts words.retries (source_faults look.faults g.D.Dial.state) words.stores c.requires.groups c.requires.folders (slice_index_or c.args.reached.chains.items n x) (reached.located n x lt) (reached.fresh n x lt) (reached.given n x lt);
    }

pub serve_by-reached-requires-clause-chains : goal.serve_by-reached-requires-clause-chains
serve_by-reached-requires-clause-chains g c κs within =
    let look = g.F.Look.Look in
    let words = c.args.words.now in
    let reached = c.requires.reached in
    let old = c.args.reached in
    folders_lent look words.stores words.retries (source_faults look.faults g.D.Dial.state) old.shelf.kind old.chains.items c.in-Ok.chains.items c.in-Ok.ensures.ok (λ n x lt. (reached.lent n x lt).kind ∙ sym reached.digest) reached.alike reached.located reached.fresh

pub close_chains-requires : goal.close_chains-requires
close_chains-requires g c =
    let look = g.F.Look.Look in
    let before = c.in-Ok.chains.items in
    let after = c.serve_by-reached.result.0.chains.items in
    let number = folders_number c.args.reached.chains.items before c.in-Ok.ensures.ok in
    let reached = c.requires.reached in
    record { known = known_after look.place (g.F.Files.disk c.folder_chains.new.files).folder_counts before after (omega (arith, reached.some, number)) c.serve_by-reached.ensures.changed.places c.in-Ok.ensures.known }

pub returns-in-Ok-clause-served : goal.returns-in-Ok-clause-served
returns-in-Ok-clause-served g c =
    let look = g.F.Look.Look in
    let D = g.F.Folder.Look in
    let words = c.args.words.now in
    let reached = c.requires.reached in
    let old = c.args.reached in
    let moved = c.in-Ok.ensures.ok in
    let d = g.F.Files.disk c.args.files.now in
    let s = shelf_of D.files D.place D.faults old.shelf in
    let over = c.serve_by-reached.ensures in
    let l = g.L.Listen.state c.args.listen.now in
    let m = g.L.Listen.state c.serve_by-reached.new.listen in
    let folders = (with_cache (Some s) d).folders in
    let store = folder_group_words look in
    let holds = chain_chunks store.holds c.in-Ok.chains.items in
    let counted = source_faults look.faults g.D.Dial.state in
    let known = folders_hold look words.stores words.retries counted old.shelf.kind old.chains.items c.in-Ok.chains.items moved (λ n x lt. (reached.lent n x lt).kind ∙ sym reached.digest) reached.alike reached.located reached.fresh reached.some folders reached.found in
    let many = folders_many look words.stores words.retries counted old.shelf.kind old.chains.items c.in-Ok.chains.items moved (λ n x lt. (reached.lent n x lt).kind ∙ sym reached.digest) reached.alike reached.located reached.fresh reached.some in
    let tells = told_with _ d.folders ∙ (g.met.F.Files.told c.args.files.now).1 ∙ both_tell g.F.Files.tells look.tells (λ t. (g.met.F.Files.alike.0 t).2) g.met.F.ImageFiles.unseen.0 in
    let sure = folders_sure look D.never_fails l m words.stores folders holds c.requires.folders tells many in
    let same = sym (and_true look.never_fails _ c.requires.folders) in
    served_from (look_types look.never_fails look.may_lack_memory) (heard D.never_fails l m) words.stores old.shelf.kind (words.workers == 1) folders (D.files old.shelf.folder) (D.files c.serve_by-reached.result.0.shelf.folder) c.serve_by-reached.result.1 look.never_fails (sure_by_types D.never_fails store holds) holds same sure known over.served

pub returns-in-Ok-clause-stocks : goal.returns-in-Ok-clause-stocks
returns-in-Ok-clause-stocks g c = c.serve_by-reached.ensures.changed.kept

pub returns-in-Ok-clause-place : goal.returns-in-Ok-clause-place
returns-in-Ok-clause-place g c = c.serve_by-reached.ensures.changed.named

pub returns-in-Ok-clause-kept : goal.returns-in-Ok-clause-kept
returns-in-Ok-clause-kept g c =
    let at = g.F.Files.disk in
    reads_twice (at c.args.files.now) (at c.folder_chains.new.files) (at c.close_chains.new.files) c.in-Ok.ensures.kept c.close_chains.ensures.kept

pub returns-in-Err-clause-served : goal.returns-in-Err-clause-served
returns-in-Err-clause-served g c =
    let D = g.F.Folder.Look in
    let words = c.args.words.now in
    let old = c.args.reached in
    let s = shelf_of D.files D.place D.faults old.shelf in
    none_served (look_types g.F.Look.Look.never_fails g.F.Look.Look.may_lack_memory) D.never_fails (g.L.Listen.state c.args.listen.now) words.stores old.shelf.kind (D.files old.shelf.folder) (words.workers == 1) (with_cache (Some s) (g.F.Files.disk c.args.files.now)).folders
