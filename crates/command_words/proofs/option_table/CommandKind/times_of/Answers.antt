use Rattle.std.proofs.Common.{ap, ◌∙◌, unwrap_or}
use Rattle.command_words.specs.OptionTable.{times, times_of, times_among, same_command}
use Rattle.command_words.proofs.Tables.{found_as}
use Rattle.command_words.proofs.option_table.CommandKind.times_of.Goals as goal

pub returns : goal.returns
unfolding times_of
returns c =
    c.times_by.ensures
    ∙ ap (λ o. unwrap_or o (times 0 0)) (found_as _ (λ row. same_command row.0 c.args.self) (λ row. times_among c.args.option row.2) _ _ c.commands.ensures)
