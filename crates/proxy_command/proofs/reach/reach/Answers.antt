use Rattle.std.proofs.Common.{◌∙◌, [], Err, Ok, Some, inr}
use Rattle.cache_store.specs.Shelves.{shelf_of}
use Rattle.command_groups.proofs.LentChains.{chains_later}
use Rattle.command_groups.specs.Groups.{stores_of}
use Rattle.command_steps.proofs.Cached.{cache_longer, cache_reads}
use Rattle.command_steps.specs.Cache.{with_cache}
use Rattle.proxy_command.proofs.Lent.{is_reached}
use Rattle.proxy_command.proofs.reach.reach.Goals as goal

pub drop_chains-requires : goal.drop_chains-requires
drop_chains-requires g c =
    let at = g.F.Files.disk in
    let b = at c.open_workers.new.files in
    let m = at c.take_shelf.new.files in
    let reached = cache_reads [] (Some c.as_str.result.now) b m (Err c.in-Err-take_shelf.outcome) c.in-Err-take_shelf.ensures.err in
    record { given = chains_later g.F.Look.Look b m reached c.in-Ok.chains.items (λ n x lt. (c.in-Ok.ensures.ok.opened n x lt).given) }

pub returns-in-Ok-take_shelf-clause-there : goal.returns-in-Ok-take_shelf-clause-there
returns-in-Ok-take_shelf-clause-there g c =
    let at = g.F.Files.disk in
    let D = g.F.Folder.Look in
    let d = at c.args.files.now in
    let b = at c.open_workers.new.files in
    let m = at c.take_shelf.new.files in
    let words = c.args.words.now in
    let taken = c.in-Ok-take_shelf.ensures in
    let s = shelf_of D.files D.place D.faults c.in-Ok-take_shelf.shelf in
    let reads = cache_reads [] (Some c.as_str.result.now) b (with_cache (Some s) m) (Ok tt) taken.ok in
    is_reached g.F.Look.Look g.D.Dial.state d b words.stores words.retries g.F.Files.tells g.met.F.Look.Look.told g.met.F.ImageFiles.unseen.0 (g.met.F.Files.told c.args.files.now).1 m s words.cache words.kind words.workers c.in-Ok.chains.items
    c.in-Ok.ensures.there.1 c.in-Ok.ensures.ok reads (taken.named ∙ c.as_str.ensures) (rw c.as_str.ensures at taken.known) taken.fresh.1

pub returns-in-Err-take_shelf-clause-err : goal.returns-in-Err-take_shelf-clause-err
returns-in-Err-take_shelf-clause-err g c =
    let at = g.F.Files.disk in
    let b = at c.open_workers.new.files in
    let m = at c.take_shelf.new.files in
    let e = at c.drop_chains.new.files in
    let groups = c.args.words.now.stores in
    let let_go = c.drop_chains.ensures.used groups (λ k x lt. (c.in-Ok.ensures.ok.opened k x lt).located) in
    let refused = cache_longer (stores_of groups) (Some c.as_str.result.now) b m e c.in-Err-take_shelf.outcome c.in-Err-take_shelf.ensures.err c.drop_chains.ensures.kept let_go in
    inr (b, c.in-Ok.ensures.there, rw c.as_str.ensures at refused)
