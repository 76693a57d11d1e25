use Rattle.std.proofs.Common.{◌≡◌, Err, refl, rules}
use Rattle.command_steps.proofs.Taken.{gives_adds}
use Rattle.store_commands.proofs.GivenFolders.{gives_rose}
use Rattle.store_commands.proofs.prune.prune_taken.Goals as goal
use Rattle.dsy_base.specs.declared.fault.IoFault.TheVariants as io

pub returns-in-Ok : goal.returns-in-Ok
returns-in-Ok g c =
    let D = g.F.Folder.Look in
    let at = g.F.Files.disk in
    let d = at c.args.files.now in
    let e = at c.give_folder.new.files in
    let q = c.args.store.now in (
      record {
        files = D.files c.prune-pruned.new.store;
        back = c.give_folder.ensures.folders;
        change = c.in-Ok.ensures.ok;
      },
      gives_adds d e q (D.faults c.prune-pruned.new.store) c.give_folder.ensures.counts,
    )

pub returns-in-Err-Failed : goal.returns-in-Err-Failed
returns-in-Err-Failed g c =
    let D = g.F.Folder.Look in
    let at = g.F.Files.disk in
    let d = at c.args.files.now in
    let e = at c.give_folder.new.files in
    let q = c.args.store.now in
    let new = D.files c.prune-pruned.new.store in
    let none = c.requires.fresh in
    let failed : c.prune-pruned.result ≡ Err io.Failed = search rules in
    let stops = rw c.in-Err-Failed.is at c.prune-pruned.ensures.err in (
      (
        refl,
        gives_rose d e q (D.faults c.args.taken) (D.faults c.prune-pruned.new.store) c.give_folder.ensures.counts none (c.prune-pruned.ensures.faults.cause failed),
        record { files = new; back = c.give_folder.ensures.folders; change = stops },
      ),
      gives_adds d e q (D.faults c.prune-pruned.new.store) c.give_folder.ensures.counts,
    )

pub returns-in-Err-Memory : goal.returns-in-Err-Memory
returns-in-Err-Memory g c =
    let D = g.F.Folder.Look in
    let at = g.F.Files.disk in
    let d = at c.args.files.now in
    let e = at c.give_folder.new.files in
    let q = c.args.store.now in
    let new = D.files c.prune-pruned.new.store in
    let stops = rw c.in-Err-Memory.is at c.prune-pruned.ensures.err in
    (record { files = new; back = c.give_folder.ensures.folders; change = stops }, gives_adds d e q (D.faults c.prune-pruned.new.store) c.give_folder.ensures.counts)
