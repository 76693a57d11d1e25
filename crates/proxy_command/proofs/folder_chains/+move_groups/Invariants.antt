use Rattle.std.proofs.Common.{length}
use Rattle.proxy_command.proofs.folder_chains.+move_groups.Given as goal

abbrev pub decreases-move_groups : goal.decreases-move_groups
decreases-move_groups g l = length l.from.items
