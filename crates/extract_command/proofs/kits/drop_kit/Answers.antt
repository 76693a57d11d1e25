use Rattle.command_steps.proofs.Consulted.{reads_twice}
use Rattle.command_steps.proofs.SeedsOpened.{all_known_later}
use Rattle.command_steps.specs.Uses.{folders_among}
use Rattle.extract_command.proofs.Using.{both_used}
use Rattle.extract_command.proofs.kits.drop_kit.Goals as goal
use Rattle.extract_command.specs.Kits.{kit_names, kit_stores}

pub drop_groups-requires : goal.drop_groups-requires
drop_groups-requires g c = record { known = rw c.into_stores.ensures.value c.requires.given.stores }

pub close_seeds-requires : goal.close_seeds-requires
close_seeds-requires g c =
    let at = g.F.Files.disk in
    record { known = all_known_later g.F.View.View.held (at c.args.files.now).file_counts (at c.drop_groups.new.files).file_counts c.drop_groups.ensures.kept.known c.args.kit.seeds.items c.requires.given.seeds }

pub returns-clause-kept : goal.returns-clause-kept
returns-clause-kept g c =
    let at = g.F.Files.disk in
    reads_twice (at c.args.files.now) (at c.drop_groups.new.files) (at c.close_seeds.new.files) c.drop_groups.ensures.kept c.close_seeds.ensures.kept

pub returns-clause-used : goal.returns-clause-used
returns-clause-used g c =
    let at = g.F.Files.disk in
    both_used (kit_names g.F.Look.Look g.F.View.View c.args.kit) (folders_among (kit_stores g.F.Look.Look g.F.View.View c.args.kit)) (at c.args.files.now) (at c.drop_groups.new.files) (at c.close_seeds.new.files)
    (rw c.into_stores.ensures.value at c.drop_groups.ensures.used) c.close_seeds.ensures.used
