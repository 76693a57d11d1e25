use Rattle.std.proofs.Common.{[], All, List, map, subst, sym}
use Rattle.command_steps.specs.AnyStores.{IsKnown, source_faults, source_files, location_in}
use Rattle.command_words.specs.declared.command.Location.{Location}
use Rattle.command_steps.proofs.OpenedSources.{first_longer, found_all, fresh_all, located_all, there_all}
use Rattle.command_steps.proofs.Used.{uses_twice, uses_within, within_same}
use Rattle.command_steps.specs.Uses.{IsNoneOf, folders_among}
use Rattle.command_steps.proofs.sources.open_sources.Goals as goal

pub returns-in-Ok-clause-there : goal.returns-in-Ok-clause-there
returns-in-Ok-clause-there g c =
    there_all (source_files g.F.Look.Look.files) (location_in g.F.Look.Look.place) (source_faults g.F.Look.Look.faults g.D.Dial.state) (g.F.Files.disk c.args.files.now).folders c.args.names.now c.new-stores.result.items c.open_each.new.stores.items c.in-Ok.ensures.ok

pub returns-in-Ok-clause-found : goal.returns-in-Ok-clause-found
returns-in-Ok-clause-found g c =
    found_all (source_files g.F.Look.Look.files) (location_in g.F.Look.Look.place) (source_faults g.F.Look.Look.faults g.D.Dial.state) (g.F.Files.disk c.args.files.now).folders c.args.names.now c.new-stores.result.items c.open_each.new.stores.items c.new-stores.ensures.items c.in-Ok.ensures.ok

pub returns-in-Ok-clause-located : goal.returns-in-Ok-clause-located
returns-in-Ok-clause-located g c =
    located_all (source_files g.F.Look.Look.files) (location_in g.F.Look.Look.place) (source_faults g.F.Look.Look.faults g.D.Dial.state) (g.F.Files.disk c.args.files.now).folders c.args.names.now c.new-stores.result.items c.open_each.new.stores.items c.new-stores.ensures.items c.in-Ok.ensures.ok

pub returns-in-Ok-clause-fresh : goal.returns-in-Ok-clause-fresh
returns-in-Ok-clause-fresh g c =
    fresh_all (source_files g.F.Look.Look.files) (location_in g.F.Look.Look.place) (source_faults g.F.Look.Look.faults g.D.Dial.state) (g.F.Files.disk c.args.files.now).folders c.args.names.now c.new-stores.result.items c.open_each.new.stores.items c.new-stores.ensures.items c.in-Ok.ensures.ok

pub returns-in-Ok-clause-known : goal.returns-in-Ok-clause-known
returns-in-Ok-clause-known g c =
    let located = located_all (source_files g.F.Look.Look.files) (location_in g.F.Look.Look.place) (source_faults g.F.Look.Look.faults g.D.Dial.state) (g.F.Files.disk c.args.files.now).folders c.args.names.now c.new-stores.result.items c.open_each.new.stores.items c.new-stores.ensures.items c.in-Ok.ensures.ok in
    subst (λ (l : List Location). All (IsKnown (g.F.Files.disk c.open_each.new.files).folder_counts) l) located c.in-Ok.ensures.known

pub returns-in-Err-clause-err : goal.returns-in-Err-clause-err
returns-in-Err-clause-err g c =
    let at = g.F.Files.disk in
    first_longer (at c.args.files.now) (at c.open_each.new.files) (at c.drop_sources.new.files) c.drop_sources.ensures.kept c.args.names.now c.in-Err.outcome c.in-Err.ensures.err

pub returns-in-Err-clause-used : goal.returns-in-Err-clause-used
returns-in-Err-clause-used g c =
    let at = g.F.Files.disk in
    let location = location_in g.F.Look.Look.place in
    let d = at c.args.files.now in
    let b = at c.open_each.new.files in
    let e = at c.drop_sources.new.files in
    let names = folders_among c.args.names.now in
    let given = uses_within [] (folders_among (map location c.open_each.new.stores.items)) [] names b e (within_same [])
    (λ q none. c.in-Err.ensures.among q (subst (λ l. IsNoneOf q (folders_among (map location l))) (sym c.new-stores.ensures.items) tt) none) c.drop_sources.ensures.used in
    uses_twice [] names d b e c.in-Err.ensures.used given
