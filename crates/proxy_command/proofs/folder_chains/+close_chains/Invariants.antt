use Rattle.std.proofs.Common.{length}
use Rattle.proxy_command.proofs.folder_chains.+close_chains.Given as goal

abbrev pub decreases-close_chains : goal.decreases-close_chains
decreases-close_chains g l = length l.chains.items
