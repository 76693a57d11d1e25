use Rattle.std.proofs.Common.{length}
use Rattle.cache_command.proofs.filling.+remake_chains.Given as goal

abbrev pub decreases-remake_chains : goal.decreases-remake_chains
decreases-remake_chains g l = length l.chains.now.items
