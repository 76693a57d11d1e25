use Rattle.std.proofs.Common.{List, map, rules, subst}
use Rattle.std.specs.List.{All}
use Rattle.command_groups.proofs.Flat.{all_parts, places_more}
use Rattle.command_groups.specs.Groups.{stores_of}
use Rattle.command_steps.proofs.Consulted.{reads_twice}
use Rattle.command_steps.proofs.Given.{all_later}
use Rattle.command_steps.specs.AnyStores.{IsKnown}
use Rattle.command_words.specs.declared.command.Location.{Location}
use Rattle.proxy_command.specs.FolderChains.{folder_locations}
use Rattle.proxy_command.proofs.folder_chains.+close_groups.Goals as goal

pub close_folders-requires : goal.close_folders-requires
close_folders-requires g t c =
    let counts = (g.F.Files.disk c.args.files.now).folder_counts in
    let location = folder_locations g.F.Look.Look.place in
    let rest = c.pop.new.self.items in
    let is = places_more location c.args.groups.items rest c.in-Some.group c.in-Some.ensures.items in
    let known = (all_parts (IsKnown counts) (stores_of (map location rest)) (location c.in-Some.group) (subst (λ (l : List Location). All (IsKnown counts) l) is c.requires.known)).1 in
    search rules

pub close_groups-requires : goal.close_groups-requires
close_groups-requires g t c =
    let at = g.F.Files.disk in
    let counts = (at c.args.files.now).folder_counts in
    let location = folder_locations g.F.Look.Look.place in
    let rest = c.pop.new.self.items in
    let is = places_more location c.args.groups.items rest c.in-Some.group c.in-Some.ensures.items in
    let before = (all_parts (IsKnown counts) (stores_of (map location rest)) (location c.in-Some.group) (subst (λ (l : List Location). All (IsKnown counts) l) is c.requires.known)).0 in
    let known = all_later counts (at c.close_folders.new.files).folder_counts c.close_folders.ensures.kept.folder_known (stores_of (map location rest)) before in
    search rules

pub returns-in-Some : goal.returns-in-Some
returns-in-Some g t c =
    let at = g.F.Files.disk in
    record { kept = reads_twice (at c.args.files.now) (at c.close_folders.new.files) (at c.close_groups.new.files) c.close_folders.ensures.kept c.close_groups.ensures.kept }
