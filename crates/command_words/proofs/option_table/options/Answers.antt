use Rattle.std.proofs.Common.{refl}
use Rattle.command_words.specs.OptionTable.{option_rows}
use Rattle.command_words.proofs.option_table.options.Goals as goal

pub returns : goal.returns
unfolding option_rows
returns c = refl
