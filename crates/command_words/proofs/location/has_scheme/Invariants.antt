use Rattle.std.proofs.Common.{◌≡◌, drop}
use Rattle.command_words.specs.Locations.{contains_scheme}
use Rattle.command_words.proofs.location.has_scheme.Given as goal

-- it stands in the word exactly where it stands in the rest
abbrev pub invariant-loop-i : goal.invariant-loop-i
invariant-loop-i l = contains_scheme (drop l.i l.word) ≡ contains_scheme l.word
