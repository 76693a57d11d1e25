use Rattle.std.proofs.Common.{◌+◌, ◌*◌, length}
use Rattle.read_ahead.proofs.rounds.+round.Given as goal

abbrev pub decreases-run_round : goal.decreases-run_round
decreases-run_round g l = 2 * length l.readers.now

abbrev pub decreases-go_on : goal.decreases-go_on
decreases-go_on g l = 2 * length l.others.now + 1
