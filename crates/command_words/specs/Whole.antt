-- What makes words a whole command, once each of them has passed: which options have to stand, and which may not stand
-- together.
use Rattle.std.specs.Prelude.{ℕ, ◌&&◌, ◌||◌, Bool, true, false, List, length, take, find, Option, Some, None}
use Rattle.std.specs.Prelude.{if◌then◌else◌, nat_lt, slice_index_or}
use Rattle.std.specs.List.{range_with_len}
use Rattle.command_words.specs.declared.option_table.CommandKind.{CommandKind}
use Rattle.command_words.specs.declared.option_table.OptionKind.{OptionKind}
use Rattle.command_words.specs.declared.option_table.OptionKind.TheVariants as option
use Rattle.command_words.specs.declared.roles.Role.{Role}
use Rattle.command_words.specs.declared.roles.Role.TheVariants as role
use Rattle.command_words.specs.declared.usage.UsageWhy.{UsageWhy}
use Rattle.command_words.specs.declared.usage.UsageWhy.TheVariants as why
use Rattle.command_words.specs.OptionTable.{takes_of, times_of}
use Rattle.command_words.specs.Roles.{is_given, times_of_role}

-- an option that doesn't stand beside one folder: a second store, or how often calls are made again
abbrev pub is_surplus : List Role → Role → Bool
is_surplus before (role.Given option.Store) = is_given option.Store before
is_surplus before (role.Given option.Retries) = true
is_surplus before other = false

-- the place of the first of these
abbrev pub first_surplus : List Role → Option ℕ
first_surplus roles =
    find (λ i. is_surplus (take i roles) (slice_index_or roles i role.Dashes)) (range_with_len 0 (length roles))

-- the option stands less often than the command needs it
abbrev pub lacks : CommandKind → List Role → OptionKind → Bool
lacks k roles o = nat_lt (times_of_role (role.Given o) roles) (times_of k o).least

-- why words of these roles are no whole command: what is missing, or that a server with a cache is to take chunks
abbrev pub why_not_whole : CommandKind → List Role → Option UsageWhy
why_not_whole k roles =
    if lacks k roles option.Store || (lacks k roles option.Cache || lacks k roles option.Listen)
    then Some why.MissingOption
    else (if lacks k roles option.Yes then Some why.NeedsYes
    else (if nat_lt (times_of_role role.Operand roles) (takes_of k).operands.least then Some why.Operands
    else (if is_given option.Cache roles && is_given option.Writable roles then Some why.ReadOnly
    else None)))
