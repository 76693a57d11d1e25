use Rattle.std.proofs.Common.{◌≡◌, ◌∙◌, All, IfSome, List, ap, map, rules, subst, sym}
use Rattle.command_groups.proofs.chains.open_chain.Goals as goal
use Rattle.command_groups.proofs.Stand.{groups_many}
use Rattle.command_groups.specs.Groups.{stores_of}
use Rattle.command_groups.specs.Opened.{AreUnused, IsFresh, files_in, locations_in}
use Rattle.command_steps.specs.AnyStores.{IsKnown, source_faults}
use Rattle.command_steps.specs.Sources.{location_files}
use Rattle.command_words.specs.declared.command.Location.{Location}

pub open_groups-requires : goal.open_groups-requires
open_groups-requires g c = record { each = c.requires.groups.each }

pub with_kind-requires : goal.with_kind-requires
with_kind-requires g c =
    let few = groups_many (locations_in g.F.Look.Look.place) c.args.groups.now c.args.retries c.in-Ok.opened.items c.in-Ok.ensures.located c.requires.groups in
    search rules

pub returns-in-Ok-clause-ok : goal.returns-in-Ok-clause-ok
returns-in-Ok-clause-ok g c =
    let look = g.F.Look.Look in
    let state = g.D.Dial.state in
    let at = g.F.Files.disk in
    let d = at c.args.files.now in
    let e = at c.open_groups.new.files in
    let groups = c.args.groups.now in
    let opened = c.in-Ok.ensures in
    let k = c.with_kind.result in
    let stores_are : k.stores ≡ c.in-Ok.opened.items = ap (λ q. q.stores) c.with_kind.ensures.value in
    let located : map (locations_in look.place) k.stores ≡ groups = ap (map (locations_in look.place)) stores_are ∙ opened.located in
    record {
      found = subst (λ l. IfSome d.folders (λ m. map (files_in look.files) l ≡ map (map (location_files m)) groups)) (sym stores_are) opened.found;
      located = located;
      fresh = subst (λ l. All (IsFresh (source_faults look.faults state) c.args.retries) l) (sym stores_are) opened.fresh;
      unused = subst (λ l. All (AreUnused state) l) (sym stores_are) opened.unused;
      given = subst (λ (l : List (List Location)). All (IsKnown e.folder_counts) (stores_of l)) (sym located) opened.known;
    }
