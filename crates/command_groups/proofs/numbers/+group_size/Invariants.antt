use Rattle.std.proofs.Common.{length}
use Rattle.command_groups.proofs.numbers.+group_size.Given as goal

abbrev pub decreases-group_size : goal.decreases-group_size
decreases-group_size l = length l.words.now
