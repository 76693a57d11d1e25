use Rattle.std.proofs.Common.{List, [], map, rules, subst}
use Rattle.std.specs.List.{All}
use Rattle.command_groups.proofs.Flat.{all_parts, folders_back, folders_front, places_more}
use Rattle.command_groups.specs.Groups.{stores_of}
use Rattle.command_groups.specs.Opened.{locations_in}
use Rattle.command_steps.proofs.Consulted.{reads_twice}
use Rattle.command_steps.proofs.Given.{all_later}
use Rattle.command_steps.proofs.Used.{uses_then, within_same}
use Rattle.command_steps.specs.AnyStores.{IsKnown}
use Rattle.command_steps.specs.Uses.{folders_among}
use Rattle.command_words.specs.declared.command.Location.{Location}
use Rattle.command_groups.proofs.groups.+drop_groups.Goals as goal

pub drop_unasked-requires : goal.drop_unasked-requires
drop_unasked-requires g t c =
    let counts = (g.F.Files.disk c.args.files.now).folder_counts in
    let location = locations_in g.F.Look.Look.place in
    let rest = c.pop.new.self.items in
    let is = places_more location c.args.groups.items rest c.in-Some.group c.in-Some.ensures.items in
    let known = (all_parts (IsKnown counts) (stores_of (map location rest)) (location c.in-Some.group) (subst (λ (l : List Location). All (IsKnown counts) l) is c.requires.known)).1 in
    record { known = known }

pub drop_groups-requires : goal.drop_groups-requires
drop_groups-requires g t c κs within =
    let at = g.F.Files.disk in
    let counts = (at c.args.files.now).folder_counts in
    let location = locations_in g.F.Look.Look.place in
    let rest = c.pop.new.self.items in
    let is = places_more location c.args.groups.items rest c.in-Some.group c.in-Some.ensures.items in
    let before = (all_parts (IsKnown counts) (stores_of (map location rest)) (location c.in-Some.group) (subst (λ (l : List Location). All (IsKnown counts) l) is c.requires.known)).0 in
    let known = all_later counts (at c.drop_unasked.new.files).folder_counts c.drop_unasked.ensures.kept.folder_known (stores_of (map location rest)) before in
    search rules

pub returns-in-Some-clause-kept : goal.returns-in-Some-clause-kept
returns-in-Some-clause-kept g t c =
    let at = g.F.Files.disk in
    reads_twice (at c.args.files.now) (at c.drop_unasked.new.files) (at c.drop_groups.new.files) c.drop_unasked.ensures.kept c.drop_groups.ensures.kept

pub returns-in-Some-clause-used : goal.returns-in-Some-clause-used
returns-in-Some-clause-used g t c =
    let at = g.F.Files.disk in
    let location = locations_in g.F.Look.Look.place in
    let rest = c.pop.new.self.items in
    let front = stores_of (map location rest) in
    let more = location c.in-Some.group in
    let all = stores_of (map location c.args.groups.items) in
    let is = places_more location c.args.groups.items rest c.in-Some.group c.in-Some.ensures.items in
    uses_then [] (folders_among more) [] (folders_among front) [] (folders_among all) (at c.args.files.now) (at c.drop_unasked.new.files) (at c.drop_groups.new.files) (within_same []) (folders_back all front more is) (within_same []) (folders_front all front more is)
    c.drop_unasked.ensures.used c.drop_groups.ensures.used
