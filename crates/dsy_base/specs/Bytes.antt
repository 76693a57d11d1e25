-- What an object that holds bytes tells, and how a write changes it. Offsets are bytes from 0, ends are exclusive.
use Rattle.std.specs.Prelude.{ℕ, ◌+◌, ◌-◌, List, ◌++◌, length, take, replicate, Option}
use Rattle.std.specs.List.{splice}
use Rattle.std.specs.Option.{option_map}

-- bytes that lie under a name: the bytes where the type tells them, and their number always
pub record Held : Type 0 where
  pub bytes : Option (List ℕ)
  pub size : ℕ
  pub name : List ℕ

-- t with b written over it from offset `at` on
abbrev pub written : List ℕ → ℕ → List ℕ → List ℕ
written t at b = splice t at (at + length b) b

-- the first n bytes of t, filled up with zeros
abbrev pub resized : List ℕ → ℕ → List ℕ
resized t n = take n t ++ replicate (n - length t) 0

-- the same object after a write, and after a change of its length
abbrev pub held_written : Held → ℕ → List ℕ → Held
held_written h at b = record { bytes = option_map (λ t. written t at b) h.bytes; size = h.size; name = h.name }

-- the same object after a change of its length to n
abbrev pub held_resized : Held → ℕ → Held
held_resized h n = record { bytes = option_map (λ t. resized t n) h.bytes; size = n; name = h.name }
