use Rattle.std.proofs.Common.{rules}
use Rattle.command_steps.specs.Sources.{storage}
use Rattle.command_steps.proofs.InTurn.{all_last, turn_last}
use Rattle.extract_command.proofs.LentKits.{rest_can}
use Rattle.extract_command.specs.Kits.{CanGiveKit, IsKitGiven}
use Rattle.extract_command.proofs.kits.+close_kits.Goals as goal

pub close_kit-requires : goal.close_kit-requires
close_kit-requires g t c = record { given = (all_last (CanGiveKit g.F.Look.Look g.F.View.View (g.F.Files.disk c.args.files.now)) c.args.kits.items c.pop.new.self.items c.in-Some.kit c.in-Some.ensures.items c.requires.given).1 }

pub close_kits-requires : goal.close_kits-requires
close_kits-requires g t c =
    let at = g.F.Files.disk in
    let given = rest_can g.F.Look.Look g.F.View.View (at c.args.files.now) (at c.close_kit.new.files) c.args.kits.items c.pop.new.self.items c.in-Some.kit c.in-Some.ensures.items c.requires.given c.close_kit.ensures.kept in
    search rules

pub returns-in-Some : goal.returns-in-Some
returns-in-Some g t c =
    let at = g.F.Files.disk in
    let state = g.D.Dial.state in
    record { given = turn_last (IsKitGiven g.F.Look.Look g.F.View.View state) c.args.kits.items c.pop.new.self.items c.in-Some.kit (storage (at c.args.files.now) (state c.args.dial.now)) (storage (at c.close_kit.new.files) (state c.close_kit.new.dial)) (storage (at c.close_kits.new.files) (state c.close_kits.new.dial)) c.in-Some.ensures.items c.close_kit.ensures.given c.close_kits.ensures.given }
