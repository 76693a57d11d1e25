use Rattle.std.proofs.Common.{◌≡◌, ◌-◌, length, take, find, slice_index_or}
use Rattle.std.specs.List.{range_with_len}
use Rattle.command_words.specs.Whole.{first_surplus, is_surplus}
use Rattle.command_words.specs.declared.roles.Role.TheVariants as role
use Rattle.command_words.proofs.whole.first_surplus.Given as goal

-- the first of those that are left is the first of all
abbrev pub invariant-loop-i : goal.invariant-loop-i
invariant-loop-i l =
    find (λ i. is_surplus (take i l.roles) (slice_index_or l.roles i role.Dashes)) (range_with_len l.i (length l.roles - l.i)) ≡ first_surplus l.roles
