use Rattle.command_line.proofs.Following.{value_follows}
use Rattle.command_line.proofs.laws.value_follows.Goals as goal

pub returns : goal.returns
returns c = record { value = value_follows }
