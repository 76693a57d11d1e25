use Rattle.std.proofs.Common.{rules}
use Rattle.command_steps.proofs.Consulted.{reads_twice}
use Rattle.command_steps.proofs.InTurn.{all_last}
use Rattle.extract_command.proofs.LentKits.{dropped_first, rest_can}
use Rattle.extract_command.specs.Kits.{CanGiveKit}
use Rattle.extract_command.proofs.kits.+drop_kits.Goals as goal

pub drop_kit-requires : goal.drop_kit-requires
drop_kit-requires g t c = record { given = (all_last (CanGiveKit g.F.Look.Look g.F.View.View (g.F.Files.disk c.args.files.now)) c.args.kits.items c.pop.new.self.items c.in-Some.kit c.in-Some.ensures.items c.requires.given).1 }

pub drop_kits-requires : goal.drop_kits-requires
drop_kits-requires g t c =
    let at = g.F.Files.disk in
    let given = rest_can g.F.Look.Look g.F.View.View (at c.args.files.now) (at c.drop_kit.new.files) c.args.kits.items c.pop.new.self.items c.in-Some.kit c.in-Some.ensures.items c.requires.given c.drop_kit.ensures.kept in
    search rules

pub returns-in-Some : goal.returns-in-Some
returns-in-Some g t c =
    let at = g.F.Files.disk in
    record {
      kept = reads_twice (at c.args.files.now) (at c.drop_kit.new.files) (at c.drop_kits.new.files) c.drop_kit.ensures.kept c.drop_kits.ensures.kept;
      used = λ names folders named. dropped_first g.F.Look.Look g.F.View.View names folders c.args.kits.items c.pop.new.self.items c.in-Some.kit (at c.args.files.now) (at c.drop_kit.new.files) (at c.drop_kits.new.files) c.in-Some.ensures.items named c.drop_kit.ensures.used
          (λ others. c.drop_kits.ensures.used names folders others);
    }
