use Rattle.std.proofs.Common.{length}
use Rattle.proxy_command.proofs.folder_chains.+move_chains.Given as goal

abbrev pub decreases-move_chains : goal.decreases-move_chains
decreases-move_chains g l = length l.from.items
