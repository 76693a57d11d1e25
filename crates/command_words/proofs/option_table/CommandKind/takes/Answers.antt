use Rattle.std.proofs.Common.{ap, ◌∙◌, unwrap_or}
use Rattle.command_words.specs.OptionTable.{names, takes_of, same_command}
use Rattle.command_words.proofs.Tables.{found_as}
use Rattle.command_words.proofs.option_table.CommandKind.takes.Goals as goal

pub returns : goal.returns
unfolding takes_of
returns c = c.takes_by.ensures ∙ ap (λ o. unwrap_or o (names 0 0 0)) (found_as _ (λ row. same_command row.0 c.args.self) (λ row. row.3) _ _ c.commands.ensures)
