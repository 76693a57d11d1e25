use Rattle.std.proofs.Common.{length}
use Rattle.command_groups.proofs.numbers.+first_store.Given as goal

abbrev pub decreases-first_store : goal.decreases-first_store
decreases-first_store l = length l.words.now
