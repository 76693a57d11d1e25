use Rattle.std.proofs.Common.{length}
use Rattle.store_chain.proofs.has.+has_each.Given as goal

abbrev pub decreases-has_each : goal.decreases-has_each
decreases-has_each g l = length l.stores.now
