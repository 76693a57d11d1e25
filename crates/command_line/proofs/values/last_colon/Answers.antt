use Rattle.std.proofs.Common.{arith}
use Rattle.command_line.proofs.Places.{last_is}
use Rattle.command_line.proofs.values.last_colon.Goals as goal

pub returns-clause-value : goal.returns-clause-value
returns-clause-value c = last_is 58 c.args.word.now _ c.rfind.ensures.cases (omega arith)
