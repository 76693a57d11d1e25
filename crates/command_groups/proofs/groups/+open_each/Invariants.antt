use Rattle.std.proofs.Common.{length}
use Rattle.command_groups.proofs.groups.+open_each.Given as goal

abbrev pub decreases-open_each : goal.decreases-open_each
decreases-open_each g l = length l.names.now
