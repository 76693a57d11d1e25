use Rattle.std.proofs.Common.{◌≡◌, map, take}
use Rattle.command_line.specs.CommandLine.{group_of}
use Rattle.command_words.specs.Roles.{words_as}
use Rattle.command_words.specs.declared.option_table.OptionKind.TheVariants as option
use Rattle.command_words.specs.declared.roles.Role.TheVariants as role
use Rattle.command_line.proofs.checked_words.CheckedWords.stores.Given as goal

-- the groups so far are those of the first words
abbrev pub invariant-loop-i : goal.invariant-loop-i
invariant-loop-i l = l.groups.items ≡ map group_of (take l.i (words_as (role.Value option.Store) l.self.roles l.self.words))
