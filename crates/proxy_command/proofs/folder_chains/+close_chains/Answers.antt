use Rattle.std.proofs.Common.{rules}
use Rattle.command_steps.proofs.Consulted.{reads_twice}
use Rattle.proxy_command.proofs.OfFolders.{chains_last, known_later}
use Rattle.proxy_command.proofs.folder_chains.+close_chains.Goals as goal

pub close_groups-requires : goal.close_groups-requires
close_groups-requires g t c =
    let known = (chains_last g.F.Look.Look.place (g.F.Files.disk c.args.files.now).folder_counts c.args.chains.items c.pop.new.self.items c.in-Some.chain c.in-Some.ensures.items c.requires.known).1 in
    search rules

pub close_chains-requires : goal.close_chains-requires
close_chains-requires g t c =
    let at = g.F.Files.disk in
    let counts = (at c.args.files.now).folder_counts in
    let place = g.F.Look.Look.place in
    let rest = c.pop.new.self.items in
    let before = (chains_last place counts c.args.chains.items rest c.in-Some.chain c.in-Some.ensures.items c.requires.known).0 in
    let known = known_later place counts (at c.close_groups.new.files).folder_counts c.close_groups.ensures.kept.folder_known rest before in
    search rules

pub returns-in-Some : goal.returns-in-Some
returns-in-Some g t c =
    let at = g.F.Files.disk in
    record { kept = reads_twice (at c.args.files.now) (at c.close_groups.new.files) (at c.close_chains.new.files) c.close_groups.ensures.kept c.close_chains.ensures.kept }
