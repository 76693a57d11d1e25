use Rattle.std.proofs.Common.{◌∙◌, [], All, List, Ok, Err, Some, ap, inl, inr, map, subst, sym}
use Rattle.cache_command.proofs.AlikeChains.{just_reached}
use Rattle.cache_command.proofs.cache.reach.Goals as goal
use Rattle.cache_store.specs.Shelves.{shelf_of}
use Rattle.command_groups.proofs.Stand.{groups_many}
use Rattle.command_groups.specs.Groups.{stores_of}
use Rattle.command_groups.specs.Opened.{locations_in}
use Rattle.command_steps.proofs.Cached.{cache_longer, cache_reads}
use Rattle.command_steps.proofs.Consulted.{reads_twice}
use Rattle.command_steps.proofs.Given.{all_later}
use Rattle.command_groups.proofs.LentChains.{chains_later}
use Rattle.command_steps.proofs.Used.{uses_twice}
use Rattle.command_steps.specs.AnyStores.{IsKnown}
use Rattle.command_steps.specs.Cache.{CacheOpened, with_cache}
use Rattle.command_steps.specs.Sources.{SourcesOpened}
use Rattle.command_steps.specs.Uses.{Uses, folders_among}
use Rattle.command_words.specs.declared.command.Location.{Location}

pub open_groups-requires : goal.open_groups-requires
open_groups-requires g c = record { each = c.requires.groups.each }

pub filling_of-requires : goal.filling_of-requires
filling_of-requires g c =
    record { size = groups_many (locations_in g.F.Look.Look.place) c.args.groups.now c.args.retries c.in-Ok.opened.items c.in-Ok.ensures.located c.requires.groups }

pub drop_chains-requires : goal.drop_chains-requires
drop_chains-requires g c =
    let at = g.F.Files.disk in
    let b = at c.open_chains-further.new.files in
    let m = at c.take_shelf.new.files in
    let reached = cache_reads [] (Some c.args.cache.now) b m (Err c.in-Err-take_shelf.outcome) c.in-Err-take_shelf.ensures.err in
    record { given = chains_later g.F.Look.Look b m reached c.open_chains-further.result.items (λ n x lt. (c.open_chains-further.ensures.opened n x lt).given) }

pub drop_groups-requires : goal.drop_groups-requires
drop_groups-requires g c =
    let at = g.F.Files.disk in
    let b = at c.open_chains-further.new.files in
    let m = at c.take_shelf.new.files in
    let e = at c.drop_chains.new.files in
    let opened = c.in-Ok.ensures in
    let reached = cache_reads [] (Some c.args.cache.now) b m (Err c.in-Err-take_shelf.outcome) c.in-Err-take_shelf.ensures.err in
    let known = all_later (at c.open_groups.new.files).folder_counts e.folder_counts
    (λ q is. c.drop_chains.ensures.kept.folder_known q (reached.folder_known q (c.open_chains-further.ensures.kept.folder_known q is))) (stores_of c.args.groups.now) opened.known in
    record { known = subst (λ (l : List (List Location)). All (IsKnown e.folder_counts) (stores_of l)) (sym opened.located) known }

pub returns-in-Err-clause-err : goal.returns-in-Err-clause-err
returns-in-Err-clause-err g c = inl (inl c.in-Err.ensures.err, c.in-Err.ensures.kept, c.in-Err.ensures.used)

pub returns-in-Err-take_shelf-clause-err : goal.returns-in-Err-take_shelf-clause-err
returns-in-Err-take_shelf-clause-err g c =
    let at = g.F.Files.disk in
    let d = at c.args.files.now in
    let a = at c.open_groups.new.files in
    let b = at c.open_chains-further.new.files in
    let m = at c.take_shelf.new.files in
    let n = at c.drop_chains.new.files in
    let e = at c.drop_groups.new.files in
    let opened = c.in-Ok.ensures in
    let further = c.open_chains-further.ensures in
    let stores = stores_of c.args.groups.now in
    let let_go = c.drop_chains.ensures.used c.args.groups.now (λ k x lt. (further.opened k x lt).located) in
    let dropped = subst (λ (l : List (List Location)). Uses [] (folders_among (stores_of l)) n e) opened.located c.drop_groups.ensures.used in
    let reads = reads_twice m n e c.drop_chains.ensures.kept c.drop_groups.ensures.kept in
    let used = uses_twice [] (folders_among stores) m n e let_go dropped in
    let refused = cache_longer stores (Some c.args.cache.now) b m e c.in-Err-take_shelf.outcome c.in-Err-take_shelf.ensures.err reads used in
    let sourced : SourcesOpened stores d (Ok tt) b = (opened.there, reads_twice d a b opened.kept further.kept, uses_twice [] (folders_among stores) d a b opened.used further.used) in
    inr (b, sourced, refused)

pub returns-in-Ok-take_shelf-clause-ok : goal.returns-in-Ok-take_shelf-clause-ok
returns-in-Ok-take_shelf-clause-ok g c =
    let at = g.F.Files.disk in
    let D = g.F.Folder.Look in
    let d = at c.args.files.now in
    let a = at c.open_groups.new.files in
    let b = at c.open_chains-further.new.files in
    let m = at c.take_shelf.new.files in
    let opened = c.in-Ok.ensures in
    let further = c.open_chains-further.ensures in
    let stores = stores_of c.args.groups.now in
    let sourced : SourcesOpened stores d (Ok tt) b = (opened.there, reads_twice d a b opened.kept further.kept, uses_twice [] (folders_among stores) d a b opened.used further.used) in
    let taken = subst (λ x. CacheOpened stores (Some c.args.cache.now) b (Ok tt) (with_cache (Some (shelf_of D.files D.place D.faults x)) m)) (sym c.filling_of.ensures.shelf) c.in-Ok-take_shelf.ensures.ok in
    (b, sourced, taken)

pub returns-in-Ok-take_shelf-clause-fresh : goal.returns-in-Ok-take_shelf-clause-fresh
returns-in-Ok-take_shelf-clause-fresh g c =
    let at = g.F.Files.disk in
    let D = g.F.Folder.Look in
    let look = g.F.Look.Look in
    let a = at c.open_groups.new.files in
    let b = at c.open_chains-further.new.files in
    let m = at c.take_shelf.new.files in
    let opened = c.in-Ok.ensures in
    let further = c.open_chains-further.ensures in
    let made = c.filling_of.ensures in
    let s = shelf_of D.files D.place D.faults c.filling_of.result.cached.shelf in
    let t = shelf_of D.files D.place D.faults c.in-Ok-take_shelf.shelf in
    let reached = cache_reads [] (Some c.args.cache.now) b (with_cache (Some t) m) (Ok tt) c.in-Ok-take_shelf.ensures.ok in
    just_reached look g.D.Dial.state g.F.Files.tells g.met.F.Look.Look.told g.met.F.ImageFiles.unseen.0 (at c.args.files.now) a b m s t c.args.cache.now c.args.groups.now c.args.retries c.filling_of.result.cached.chain c.in-Ok.opened.items c.filling_of.result.further.items c.open_chains-further.result.items
    (ap (shelf_of D.files D.place D.faults) made.shelf) made.stores (ap (λ v. v.items) made.further) (g.met.F.Files.told c.open_groups.new.files).1 opened.kept further.kept reached opened.located opened.found opened.fresh opened.unused opened.known further.opened
    c.in-Ok-take_shelf.ensures.named c.in-Ok-take_shelf.ensures.known c.in-Ok-take_shelf.ensures.fresh.0

pub returns-in-Ok-take_shelf-clause-located : goal.returns-in-Ok-take_shelf-clause-located
returns-in-Ok-take_shelf-clause-located g c = ap (map (locations_in g.F.Look.Look.place)) c.filling_of.ensures.stores ∙ c.in-Ok.ensures.located
