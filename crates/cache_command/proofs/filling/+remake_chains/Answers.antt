use Rattle.std.proofs.Common.{arith}
use Rattle.cache_command.proofs.filling.+remake_chains.Goals as goal

pub returns-in-Some-clause-capacity : goal.returns-in-Some-clause-capacity
returns-in-Some-clause-capacity g t c = omega (arith, c.pop.ensures.capacity, c.remake_chains.ensures.capacity, c.push.ensures.capacity)
