use Rattle.std.proofs.Common.{arith, map, rules}
use Rattle.command_groups.specs.Groups.{stores_of}
use Rattle.command_steps.proofs.Given.{all_later}
use Rattle.command_steps.proofs.InTurn.{first_out}
use Rattle.proxy_command.proofs.OfFolders.{first_ready, groups_known, groups_later, group_pushed, moved_known}
use Rattle.proxy_command.specs.FolderChains.{folder_locations}
use Rattle.proxy_command.proofs.folder_chains.+move_groups.Goals as goal

pub move_groups-requires : goal.move_groups-requires
move_groups-requires g t c κs within =
    let at = g.F.Files.disk in
    let place = g.F.Look.Look.place in
    let old = (at c.args.files.now).folder_counts in
    let new = (at c.group_of.new.files).folder_counts in
    let on = c.in-Ok.ensures.kept.folder_known in
    let group = c.remove-group.result in
    let rest = c.remove-group.new.self.items in
    let is = first_out c.args.from.items rest group (omega (arith, c.args.from.ok.0)) c.remove-group.ensures.value c.remove-group.ensures.items in
    let ready = first_ready place old c.args.retries c.args.from.items rest group is c.requires.groups in
    let groups = groups_later place old new on c.args.retries rest ready.1 in
    let before = all_later old new on (stores_of (map (folder_locations place) c.args.to.now.items)) c.requires.known in
    let one = moved_known place new c.in-Ok.group group c.in-Ok.ensures.ok (all_later old new on _ ready.0.known) in
    let known = group_pushed place new c.args.to.now.items c.push_reserved.new.self.items c.in-Ok.group c.push_reserved.ensures.items before one in
    search rules

pub drop_groups-requires : goal.drop_groups-requires
drop_groups-requires g t c =
    let at = g.F.Files.disk in
    let place = g.F.Look.Look.place in
    let old = (at c.args.files.now).folder_counts in
    let new = (at c.group_of.new.files).folder_counts in
    let group = c.remove-group.result in
    let rest = c.remove-group.new.self.items in
    let is = first_out c.args.from.items rest group (omega (arith, c.args.from.ok.0)) c.remove-group.ensures.value c.remove-group.ensures.items in
    let ready = first_ready place old c.args.retries c.args.from.items rest group is c.requires.groups in
    record { known = groups_known place new c.args.retries rest (groups_later place old new c.in-Err.ensures.kept.folder_known c.args.retries rest ready.1) }
