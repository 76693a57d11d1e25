use Rattle.std.proofs.Common.{length}
use Rattle.extract_command.proofs.kits.+close_kits.Given as goal

abbrev pub decreases-close_kits : goal.decreases-close_kits
decreases-close_kits g l = length l.kits.items
