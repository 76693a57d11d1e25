use Rattle.std.proofs.Common.{◌==◌, ◌∙◌, sym}
use Rattle.cache_store.specs.Shelves.{shelf_of}
use Rattle.proxy_command.proofs.FolderBack.{folders_served}
use Rattle.proxy_command.proofs.serve_folders.serve_folders.Goals as goal
use Rattle.proxy_command.specs.ProxyServing.{look_types}
use Rattle.server_commands.specs.Serving.{heard}

pub give_shelf-requires : goal.give_shelf-requires
give_shelf-requires g c =
    let reached = c.requires.reached in
    let over = c.serve_stores-shelf.ensures in
    record {
      named = over.place ∙ reached.named ∙ sym c.as_str.ensures;
      known = over.kept.folder_known c.as_str.result.now (rw c.as_str.ensures reached.known);
    }

pub returns : goal.returns
returns g c =
    let at = g.F.Files.disk in
    let D = g.F.Folder.Look in
    let words = c.args.words.now in
    let reached = c.requires.reached in
    let over = c.serve_stores-shelf.ensures in
    let s = shelf_of D.files D.place D.faults c.args.reached.shelf in
    let t = shelf_of D.files D.place D.faults c.serve_stores-shelf.result.0 in
    record {
      served = λ k. folders_served words.stores words.retries words.cache words.kind s t (at c.args.files.now) (at c.serve_stores-shelf.new.files) (at c.give_shelf.new.files) over.kept c.give_shelf.ensures.given reached.named over.place reached.digest c.requires.folders
          (look_types g.F.Look.Look.never_fails g.F.Look.Look.may_lack_memory) (heard D.never_fails (g.L.Listen.state c.args.listen.now) (g.L.Listen.state c.serve_stores-shelf.new.listen)) (words.workers == 1) k c.serve_stores-shelf.result.1 over.served over.stocks;
    }
