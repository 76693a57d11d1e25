use Rattle.std.proofs.Common.{List, [], map, rules, subst}
use Rattle.std.specs.List.{All}
use Rattle.command_groups.proofs.Flat.{all_parts, folders_back, folders_front, places_more}
use Rattle.command_groups.proofs.Given.{consults_both, groups_given_more}
use Rattle.command_groups.specs.Groups.{stores_of}
use Rattle.command_groups.specs.Opened.{locations_in}
use Rattle.command_steps.proofs.Given.{all_later}
use Rattle.command_steps.proofs.Used.{uses_then, within_same}
use Rattle.command_steps.specs.AnyStores.{IsKnown}
use Rattle.command_steps.specs.Sources.{storage}
use Rattle.command_steps.specs.Uses.{folders_among}
use Rattle.command_words.specs.declared.command.Location.{Location}
use Rattle.command_groups.proofs.groups.+close_groups.Goals as goal

pub close_groups-requires : goal.close_groups-requires
close_groups-requires g t c κs within =
    let counts = (g.F.Files.disk c.args.files.now).folder_counts in
    let location = locations_in g.F.Look.Look.place in
    let rest = c.pop.new.self.items in
    let is = places_more location c.args.groups.items rest c.in-Some.group c.in-Some.ensures.items in
    let known = (all_parts (IsKnown counts) (stores_of (map location rest)) (location c.in-Some.group) (subst (λ (l : List Location). All (IsKnown counts) l) is c.requires.known)).0 in
    search rules

pub close-requires : goal.close-requires
close-requires g t c =
    let at = g.F.Files.disk in
    let counts = (at c.args.files.now).folder_counts in
    let location = locations_in g.F.Look.Look.place in
    let rest = c.pop.new.self.items in
    let is = places_more location c.args.groups.items rest c.in-Some.group c.in-Some.ensures.items in
    let known = (all_parts (IsKnown counts) (stores_of (map location rest)) (location c.in-Some.group) (subst (λ (l : List Location). All (IsKnown counts) l) is c.requires.known)).1 in
    let later = all_later counts (at c.close_groups.new.files).folder_counts c.close_groups.ensures.kept.0.disk.folder_known (location c.in-Some.group) known in
    record { known = later }

pub returns-in-Some-clause-kept : goal.returns-in-Some-clause-kept
returns-in-Some-clause-kept g t c =
    let at = g.F.Files.disk in
    let state = g.D.Dial.state in
    let location = locations_in g.F.Look.Look.place in
    let rest = c.pop.new.self.items in
    consults_both (storage (at c.args.files.now) (state c.args.dial.now)) (storage (at c.close_groups.new.files) (state c.close_groups.new.dial)) (storage (at c.close.new.files) (state c.close.new.dial)) (stores_of (map location rest)) (location c.in-Some.group)
    (stores_of (map location c.args.groups.items)) (places_more location c.args.groups.items rest c.in-Some.group c.in-Some.ensures.items) c.close_groups.ensures.kept c.close.ensures.kept

pub returns-in-Some-clause-used : goal.returns-in-Some-clause-used
returns-in-Some-clause-used g t c =
    let at = g.F.Files.disk in
    let location = locations_in g.F.Look.Look.place in
    let rest = c.pop.new.self.items in
    let front = stores_of (map location rest) in
    let more = location c.in-Some.group in
    let all = stores_of (map location c.args.groups.items) in
    let is = places_more location c.args.groups.items rest c.in-Some.group c.in-Some.ensures.items in
    uses_then [] (folders_among front) [] (folders_among more) [] (folders_among all) (at c.args.files.now) (at c.close_groups.new.files) (at c.close.new.files) (within_same []) (folders_front all front more is) (within_same []) (folders_back all front more is)
    c.close_groups.ensures.used c.close.ensures.used

pub returns-in-Some-clause-given : goal.returns-in-Some-clause-given
returns-in-Some-clause-given g t c =
    let at = g.F.Files.disk in
    let state = g.D.Dial.state in
    groups_given_more g.F.Look.Look.place g.F.Look.Look.faults state (storage (at c.args.files.now) (state c.args.dial.now)) (storage (at c.close_groups.new.files) (state c.close_groups.new.dial)) (storage (at c.close.new.files) (state c.close.new.dial)) c.args.groups.items c.pop.new.self.items c.in-Some.group c.in-Some.ensures.items
    c.close_groups.ensures.kept.0 c.close.ensures.kept.0 c.close_groups.ensures.given
    c.close.ensures.given
