use Rattle.std.proofs.Common.{length}
use Rattle.cache_command.proofs.cache.+fill_each.Given as goal

abbrev pub decreases-fill_each : goal.decreases-fill_each
decreases-fill_each g l = length l.indexes.now
