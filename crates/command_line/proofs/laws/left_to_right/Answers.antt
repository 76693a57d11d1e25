use Rattle.command_line.proofs.Following.{roles_stay, fault_stays}
use Rattle.command_line.proofs.laws.left_to_right.Goals as goal

pub returns-clause-value : goal.returns-clause-value
returns-clause-value c = roles_stay

pub returns-clause-first : goal.returns-clause-first
returns-clause-first c = fault_stays
