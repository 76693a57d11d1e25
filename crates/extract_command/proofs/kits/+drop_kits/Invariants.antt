use Rattle.std.proofs.Common.{length}
use Rattle.extract_command.proofs.kits.+drop_kits.Given as goal

abbrev pub decreases-drop_kits : goal.decreases-drop_kits
decreases-drop_kits g l = length l.kits.items
