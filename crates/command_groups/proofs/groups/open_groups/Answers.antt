use Rattle.std.proofs.Common.{List, [], map, subst, sym}
use Rattle.std.specs.List.{All}
use Rattle.command_groups.proofs.Opening.{groups_found, groups_fresh, groups_located, groups_there, groups_unused}
use Rattle.command_groups.specs.Groups.{stores_of}
use Rattle.command_groups.specs.Opened.{locations_in}
use Rattle.command_steps.proofs.OpenedSources.{first_longer}
use Rattle.command_steps.proofs.Used.{uses_twice, uses_within, within_same}
use Rattle.command_steps.specs.AnyStores.{IsKnown}
use Rattle.command_steps.specs.Uses.{IsNoneOf, folders_among}
use Rattle.command_words.specs.declared.command.Location.{Location}
use Rattle.command_groups.proofs.groups.open_groups.Goals as goal

pub returns-in-Ok-clause-there : goal.returns-in-Ok-clause-there
returns-in-Ok-clause-there g c =
    groups_there g.F.Look.Look g.D.Dial.state c.args.retries (g.F.Files.disk c.args.files.now).folders c.args.groups.now c.new-opened.result.items c.open_each.new.groups.items c.in-Ok.ensures.ok

pub returns-in-Ok-clause-found : goal.returns-in-Ok-clause-found
returns-in-Ok-clause-found g c =
    groups_found g.F.Look.Look g.D.Dial.state c.args.retries (g.F.Files.disk c.args.files.now).folders c.args.groups.now c.new-opened.result.items c.open_each.new.groups.items c.new-opened.ensures.items c.in-Ok.ensures.ok

pub returns-in-Ok-clause-located : goal.returns-in-Ok-clause-located
returns-in-Ok-clause-located g c =
    groups_located g.F.Look.Look g.D.Dial.state c.args.retries (g.F.Files.disk c.args.files.now).folders c.args.groups.now c.new-opened.result.items c.open_each.new.groups.items c.new-opened.ensures.items c.in-Ok.ensures.ok

pub returns-in-Ok-clause-fresh : goal.returns-in-Ok-clause-fresh
returns-in-Ok-clause-fresh g c =
    groups_fresh g.F.Look.Look g.D.Dial.state c.args.retries (g.F.Files.disk c.args.files.now).folders c.args.groups.now c.new-opened.result.items c.open_each.new.groups.items c.new-opened.ensures.items c.in-Ok.ensures.ok

pub returns-in-Ok-clause-unused : goal.returns-in-Ok-clause-unused
returns-in-Ok-clause-unused g c =
    groups_unused g.F.Look.Look g.D.Dial.state c.args.retries (g.F.Files.disk c.args.files.now).folders c.args.groups.now c.new-opened.result.items c.open_each.new.groups.items c.new-opened.ensures.items c.in-Ok.ensures.ok

pub returns-in-Ok-clause-known : goal.returns-in-Ok-clause-known
returns-in-Ok-clause-known g c =
    let located = groups_located g.F.Look.Look g.D.Dial.state c.args.retries (g.F.Files.disk c.args.files.now).folders c.args.groups.now c.new-opened.result.items c.open_each.new.groups.items c.new-opened.ensures.items c.in-Ok.ensures.ok in
    subst (λ (l : List (List Location)). All (IsKnown (g.F.Files.disk c.open_each.new.files).folder_counts) (stores_of l)) located c.in-Ok.ensures.known

pub returns-in-Err-clause-err : goal.returns-in-Err-clause-err
returns-in-Err-clause-err g c =
    let at = g.F.Files.disk in
    first_longer (at c.args.files.now) (at c.open_each.new.files) (at c.drop_groups.new.files) c.drop_groups.ensures.kept (stores_of c.args.groups.now) c.in-Err.outcome c.in-Err.ensures.err

pub returns-in-Err-clause-used : goal.returns-in-Err-clause-used
returns-in-Err-clause-used g c =
    let at = g.F.Files.disk in
    let location = locations_in g.F.Look.Look.place in
    let d = at c.args.files.now in
    let b = at c.open_each.new.files in
    let e = at c.drop_groups.new.files in
    let names = folders_among (stores_of c.args.groups.now) in
    let given = uses_within [] (folders_among (stores_of (map location c.open_each.new.groups.items))) [] names b e (within_same [])
    (λ q none. c.in-Err.ensures.among q (subst (λ l. IsNoneOf q (folders_among (stores_of (map location l)))) (sym c.new-opened.ensures.items) tt) none) c.drop_groups.ensures.used in
    uses_twice [] names d b e c.in-Err.ensures.used given
