use Rattle.command_line.proofs.Limits.{fits}
use Rattle.command_line.proofs.laws.commands_fit.Goals as goal

pub returns : goal.returns
returns c = record { fits = fits }
