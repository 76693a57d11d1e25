use Rattle.command_steps.proofs.Consulted.{reads_twice}
use Rattle.command_steps.proofs.SeedsOpened.{all_known_later}
use Rattle.command_steps.specs.Uses.{folders_among}
use Rattle.extract_command.proofs.Using.{both_used}
use Rattle.extract_command.proofs.kits.close_kit.Goals as goal
use Rattle.extract_command.specs.Kits.{kit_names, kit_stores}

pub close_groups-requires : goal.close_groups-requires
close_groups-requires g c = record { known = rw c.into_stores.ensures.value c.requires.given.stores }

pub close_seeds-requires : goal.close_seeds-requires
close_seeds-requires g c =
    let at = g.F.Files.disk in
    record { known = all_known_later g.F.View.View.held (at c.args.files.now).file_counts (at c.close_groups.new.files).file_counts c.close_groups.ensures.kept.0.disk.known c.args.kit.seeds.items c.requires.given.seeds }

pub returns-clause-given : goal.returns-clause-given
returns-clause-given g c =
    let at = g.F.Files.disk in
    let b = at c.close_groups.new.files in
    record {
      closed = b;
      stores = rw c.into_stores.ensures.value at c.close_groups.ensures.kept;
      given = rw c.into_stores.ensures.value at c.close_groups.ensures.given;
      ended = rw c.into_stores.ensures.value at c.close_groups.ensures.ended;
      seeds = c.close_seeds.ensures.kept;
      used = both_used (kit_names g.F.Look.Look g.F.View.View c.args.kit) (folders_among (kit_stores g.F.Look.Look g.F.View.View c.args.kit)) (at c.args.files.now) b (at c.close_seeds.new.files)
          (rw c.into_stores.ensures.value at c.close_groups.ensures.used) c.close_seeds.ensures.used;
      added = c.close_seeds.ensures.added;
    }

pub returns-clause-kept : goal.returns-clause-kept
returns-clause-kept g c =
    let at = g.F.Files.disk in
    reads_twice (at c.args.files.now) (at c.close_groups.new.files) (at c.close_seeds.new.files) c.close_groups.ensures.kept.0.disk c.close_seeds.ensures.kept
