use Rattle.std.proofs.Common.{ap, ◌∙◌, false, unwrap_or}
use Rattle.command_words.specs.OptionTable.{takes_value, same_option}
use Rattle.command_words.proofs.Tables.{found_as}
use Rattle.command_words.proofs.option_table.OptionKind.takes_value.Goals as goal

pub returns : goal.returns
unfolding takes_value
returns c = c.value_among.ensures ∙ ap (λ o. unwrap_or o false) (found_as _ (λ row. same_option row.0 c.args.self) (λ row. row.3) _ _ c.options.ensures)
