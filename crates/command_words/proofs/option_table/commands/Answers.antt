use Rattle.std.proofs.Common.{refl}
use Rattle.command_words.specs.OptionTable.{command_rows}
use Rattle.command_words.proofs.option_table.commands.Goals as goal

pub returns : goal.returns
unfolding command_rows
returns c = refl
