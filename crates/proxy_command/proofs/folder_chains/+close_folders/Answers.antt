use Rattle.std.proofs.Common.{rules}
use Rattle.command_steps.proofs.Consulted.{reads_twice}
use Rattle.command_steps.proofs.Given.{all_later, last_known}
use Rattle.proxy_command.specs.FolderChains.{folder_location}
use Rattle.proxy_command.proofs.folder_chains.+close_folders.Goals as goal

pub close_folder-requires : goal.close_folder-requires
close_folder-requires g t c =
    let both = last_known (folder_location g.F.Look.Look.place) (g.F.Files.disk c.args.files.now).folder_counts c.args.folders.items c.pop.new.self.items c.in-Some.folder c.in-Some.ensures.items c.requires.known in
    record { known = both.1 }

pub close_folders-requires : goal.close_folders-requires
close_folders-requires g t c =
    let at = g.F.Files.disk in
    let both = last_known (folder_location g.F.Look.Look.place) (at c.args.files.now).folder_counts c.args.folders.items c.pop.new.self.items c.in-Some.folder c.in-Some.ensures.items c.requires.known in
    let known = all_later (at c.args.files.now).folder_counts (at c.close_folder.new.files).folder_counts c.close_folder.ensures.kept.folder_known _ both.0 in
    search rules

pub returns-in-Some : goal.returns-in-Some
returns-in-Some g t c =
    let at = g.F.Files.disk in
    record { kept = reads_twice (at c.args.files.now) (at c.close_folder.new.files) (at c.close_folders.new.files) c.close_folder.ensures.kept c.close_folders.ensures.kept }
