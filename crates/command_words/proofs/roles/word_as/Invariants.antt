use Rattle.std.proofs.Common.{◌≡◌, map, drop, string_bytes}
use Rattle.command_words.specs.Roles.{word_as}
use Rattle.command_words.proofs.roles.word_as.Given as goal

-- the word is the one at that place among those that are left
abbrev pub invariant-loop-i : goal.invariant-loop-i
invariant-loop-i l = word_as l.fn.role l.left (drop l.i l.roles) (drop l.i (map string_bytes l.words)) ≡ word_as l.fn.role l.place l.roles (map string_bytes l.words)
