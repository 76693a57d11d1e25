use Rattle.std.proofs.Common.{length}
use Rattle.command_steps.proofs.sources.+close_sources.Given as goal

abbrev pub decreases-close_sources : goal.decreases-close_sources
decreases-close_sources g l = length l.stores.items
