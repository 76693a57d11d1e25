use Rattle.std.proofs.Common.{◌∙◌, map}
use Rattle.command_steps.proofs.Consulted.{reads_twice}
use Rattle.command_steps.proofs.Given.{last_at}
use Rattle.command_steps.proofs.Lent.{added_last}
use Rattle.command_steps.proofs.Used.{ended_last}
use Rattle.command_steps.specs.Seeds.{label_in}
use Rattle.extract_plan.specs.Seeds.{faults_in, seed_held}
use Rattle.command_steps.proofs.seeds.+close_seeds.Goals as goal

pub returns-in-Some-clause-used : goal.returns-in-Some-clause-used
returns-in-Some-clause-used g t c =
    let at = g.F.Files.disk in
    let view = seed_held g.F.View.View.held in
    let rest = c.pop.new.self.items in
    ended_last (map view c.args.seeds.items) (map view rest) (view c.in-Some.seed) (at c.args.files.now) (at c.close.new.files) (at c.close_seeds.new.files) (last_at view c.args.seeds.items rest c.in-Some.seed c.in-Some.ensures.items)
    c.close.ensures.used c.close_seeds.ensures.used

pub returns-in-Some-clause-kept : goal.returns-in-Some-clause-kept
returns-in-Some-clause-kept g t c =
    let at = g.F.Files.disk in
    reads_twice (at c.args.files.now) (at c.close.new.files) (at c.close_seeds.new.files) c.close.ensures.kept c.close_seeds.ensures.kept

pub returns-in-Some-clause-counts : goal.returns-in-Some-clause-counts
returns-in-Some-clause-counts g t c = c.close_seeds.ensures.counts ∙ c.close.ensures.counts

pub returns-in-Some-clause-added : goal.returns-in-Some-clause-added
returns-in-Some-clause-added g t c =
    let at = g.F.Files.disk in
    let D = g.F.View.View in
    added_last (label_in D.held) (faults_in D.faults) (at c.args.files.now).file_counts (at c.close.new.files).file_counts (at c.close_seeds.new.files).file_counts c.args.seeds.items c.pop.new.self.items c.in-Some.seed c.in-Some.ensures.items c.close.ensures.kept.counts c.close_seeds.ensures.kept.counts
    c.close.ensures.added c.close_seeds.ensures.added
