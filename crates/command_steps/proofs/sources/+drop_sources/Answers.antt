use Rattle.std.proofs.Common.{map, rules}
use Rattle.command_steps.proofs.Consulted.{reads_twice}
use Rattle.command_steps.proofs.Given.{all_later, last_at, last_known}
use Rattle.command_steps.proofs.Used.{dropped_last}
use Rattle.command_steps.specs.AnyStores.{location_in}
use Rattle.command_steps.proofs.sources.+drop_sources.Goals as goal

pub drop_unasked-requires : goal.drop_unasked-requires
drop_unasked-requires g t c =
    let both = last_known (location_in g.F.Look.Look.place) (g.F.Files.disk c.args.files.now).folder_counts c.args.stores.items c.pop.new.self.items c.in-Some.store c.in-Some.ensures.items c.requires.known in
    record { known = both.1 }

pub drop_sources-requires : goal.drop_sources-requires
drop_sources-requires g t c =
    let at = g.F.Files.disk in
    let both = last_known (location_in g.F.Look.Look.place) (at c.args.files.now).folder_counts c.args.stores.items c.pop.new.self.items c.in-Some.store c.in-Some.ensures.items c.requires.known in
    let known = all_later (at c.args.files.now).folder_counts (at c.drop_unasked.new.files).folder_counts c.drop_unasked.ensures.kept.folder_known _ both.0 in
    search rules

pub returns-in-Some : goal.returns-in-Some
returns-in-Some g t c =
    let at = g.F.Files.disk in
    let location = location_in g.F.Look.Look.place in
    let rest = c.pop.new.self.items in
    record {
      kept = reads_twice (at c.args.files.now) (at c.drop_unasked.new.files) (at c.drop_sources.new.files) c.drop_unasked.ensures.kept c.drop_sources.ensures.kept;
      used = dropped_last (map location c.args.stores.items) (map location rest) (location c.in-Some.store) (at c.args.files.now) (at c.drop_unasked.new.files) (at c.drop_sources.new.files) (last_at location c.args.stores.items rest c.in-Some.store c.in-Some.ensures.items)
          c.drop_unasked.ensures.used c.drop_sources.ensures.used;
    }
