use Rattle.std.proofs.Common.{length}
use Rattle.store_group.proofs.turns.+ask_in_turn.Given as goal

abbrev pub decreases-ask_in_turn : goal.decreases-ask_in_turn
decreases-ask_in_turn g l = length l.stores.now
