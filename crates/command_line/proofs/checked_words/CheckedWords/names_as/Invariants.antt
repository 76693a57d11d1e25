use Rattle.std.proofs.Common.{◌≡◌, take}
use Rattle.command_words.specs.Roles.{words_as}
use Rattle.command_line.proofs.checked_words.CheckedWords.names_as.Given as goal

-- the names so far are the first words of the role
abbrev pub invariant-loop-i : goal.invariant-loop-i
invariant-loop-i l = l.names.items ≡ take l.i (words_as l.role l.self.roles l.self.words)
