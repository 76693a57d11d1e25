use Rattle.std.proofs.Common.{◌∙◌}
use Rattle.std.specs.Str.{bytes_eq}
use Rattle.command_words.specs.OptionTable.{command_named}
use Rattle.command_words.proofs.Tables.{found_as}
use Rattle.command_words.proofs.option_table.command_named.Goals as goal

pub returns : goal.returns
unfolding command_named
returns c = c.command_among.ensures ∙ found_as _ (λ row. bytes_eq c.args.word.now row.1) (λ row. row.0) _ _ c.commands.ensures
