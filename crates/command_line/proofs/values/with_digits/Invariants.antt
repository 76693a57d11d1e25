use Rattle.std.proofs.Common.{◌≡◌, ◌≤◌, drop}
use Rattle.command_line.specs.Values.{with_digits}
use Rattle.command_line.proofs.values.with_digits.Given as goal

-- the digits that are left make of the number the number of the word
abbrev pub invariant-loop-digit : goal.invariant-loop-digit
invariant-loop-digit l = (with_digits l.most l.n (drop l.digit-index l.word) ≡ with_digits l.most 0 l.word) × (l.n ≤ l.most)
