use Rattle.std.proofs.Common.{length}
use Rattle.command_groups.proofs.groups.+drop_groups.Given as goal

abbrev pub decreases-drop_groups : goal.decreases-drop_groups
decreases-drop_groups g l = length l.groups.items
