use Rattle.std.proofs.Common.{◌≡◌, ◌-◌, length, take, sum_by}
use Rattle.command_words.specs.Locations.{parts_of}
use Rattle.command_words.specs.Roles.{words_as}
use Rattle.command_words.specs.declared.option_table.OptionKind.TheVariants as option
use Rattle.command_words.specs.declared.roles.Role.TheVariants as role
use Rattle.command_line.proofs.locations.room_after.Given as goal

-- what is left after the first words
abbrev pub invariant-loop-i : goal.invariant-loop-i
invariant-loop-i l = l.left ≡ 16 - sum_by (λ w. length (parts_of w)) (take l.i (words_as (role.Value option.Store) l.before.roles l.before.words))
