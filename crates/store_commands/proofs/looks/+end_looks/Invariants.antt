use Rattle.std.proofs.Common.{length}
use Rattle.store_commands.proofs.looks.+end_looks.Given as goal

abbrev pub decreases-end_looks : goal.decreases-end_looks
decreases-end_looks g l = length l.looks.items
