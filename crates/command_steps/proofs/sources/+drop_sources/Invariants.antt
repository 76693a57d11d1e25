use Rattle.std.proofs.Common.{length}
use Rattle.command_steps.proofs.sources.+drop_sources.Given as goal

abbrev pub decreases-drop_sources : goal.decreases-drop_sources
decreases-drop_sources g l = length l.stores.items
