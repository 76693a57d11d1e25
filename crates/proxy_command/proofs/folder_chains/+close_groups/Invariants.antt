use Rattle.std.proofs.Common.{length}
use Rattle.proxy_command.proofs.folder_chains.+close_groups.Given as goal

abbrev pub decreases-close_groups : goal.decreases-close_groups
decreases-close_groups g l = length l.groups.items
