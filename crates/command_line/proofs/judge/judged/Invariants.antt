use Rattle.std.proofs.Common.{◌≡◌, ◌<◌, ℕ, None, take, length, map, string_bytes}
use Rattle.command_line.specs.Judging.{refusal_at}
use Rattle.command_words.specs.Roles.{roles_of}
use Rattle.command_line.proofs.judge.judged.Given as goal

-- the words so far have these roles, and none of them is refused
abbrev pub invariant-loop-i : goal.invariant-loop-i
invariant-loop-i l =
    (l.roles.items ≡ roles_of l.kind (take l.i (map string_bytes l.words)))
    × ((j : ℕ) → j < l.i → refusal_at l.kind (map string_bytes l.words) j ≡ None)
    × (length l.roles.items ≡ l.i)
