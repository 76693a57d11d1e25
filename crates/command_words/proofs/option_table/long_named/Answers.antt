use Rattle.std.proofs.Common.{◌∙◌, ◌&&◌}
use Rattle.std.specs.Str.{bytes_eq}
use Rattle.command_words.specs.OptionTable.{long_named, takes_option}
use Rattle.command_words.proofs.Tables.{found_as}
use Rattle.command_words.proofs.option_table.long_named.Goals as goal

pub returns : goal.returns
unfolding long_named
returns c = c.long_among.ensures ∙ found_as _ (λ row. bytes_eq c.args.word.now row.2 && takes_option c.args.kind row.0) (λ row. row.0) _ _ c.options.ensures
