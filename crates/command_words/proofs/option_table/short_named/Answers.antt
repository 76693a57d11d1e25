use Rattle.std.proofs.Common.{◌∙◌, ◌&&◌}
use Rattle.std.specs.Str.{bytes_eq}
use Rattle.command_words.specs.OptionTable.{short_named, takes_option}
use Rattle.command_words.proofs.Tables.{found_as}
use Rattle.command_words.proofs.option_table.short_named.Goals as goal

pub returns : goal.returns
unfolding short_named
returns c = c.short_among.ensures ∙ found_as _ (λ row. bytes_eq c.args.word.now row.1 && takes_option c.args.kind row.0) (λ row. row.0) _ _ c.options.ensures
