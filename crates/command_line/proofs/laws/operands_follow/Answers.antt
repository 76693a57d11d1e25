use Rattle.command_line.proofs.Following.{operands_follow}
use Rattle.command_line.proofs.laws.operands_follow.Goals as goal

pub returns : goal.returns
returns c = record { value = operands_follow }
