use Rattle.command_line.proofs.Following.{first_decides}
use Rattle.command_line.proofs.laws.first_refusal_decides.Goals as goal

pub returns : goal.returns
returns c = record { first = first_decides }
