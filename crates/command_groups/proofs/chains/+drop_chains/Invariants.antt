use Rattle.std.proofs.Common.{length}
use Rattle.command_groups.proofs.chains.+drop_chains.Given as goal

abbrev pub decreases-drop_chains : goal.decreases-drop_chains
decreases-drop_chains g l = length l.chains.items
