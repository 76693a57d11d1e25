use Rattle.std.proofs.Common.{length}
use Rattle.command_steps.proofs.seeds.+close_seeds.Given as goal

abbrev pub decreases-close_seeds : goal.decreases-close_seeds
decreases-close_seeds g l = length l.seeds.items
