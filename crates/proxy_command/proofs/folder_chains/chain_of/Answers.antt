use Rattle.std.proofs.Common.{map, subst, sym}
use Rattle.std.specs.List.{All}
use Rattle.command_groups.specs.Groups.{stores_of}
use Rattle.command_groups.specs.Opened.{locations_in}
use Rattle.command_steps.specs.AnyStores.{IsKnown}
use Rattle.proxy_command.proofs.OfFolders.{groups_known}
use Rattle.proxy_command.proofs.folder_chains.chain_of.Goals as goal

pub drop_groups-requires : goal.drop_groups-requires
drop_groups-requires g c =
    let place = g.F.Look.Look.place in
    let counts = (g.F.Files.disk c.args.files.now).folder_counts in
    record { known = subst (λ l. All (IsKnown counts) (stores_of (map (locations_in place) l))) (sym c.into_stores-groups.ensures.value) (groups_known place counts c.args.retries c.args.chain.stores c.requires.chain.groups) }
