-- What a sink has taken of a text.
use Rattle.std.specs.Prelude.{◌≡◌, ℕ, List, ◌++◌, Option, Result, Ok, Err}
use Rattle.std.specs.Option.{option_map}
use Rattle.dsy_base.specs.Disk.{PutsFront}
use Rattle.dsy_base.specs.declared.fault.IoFault.{IoFault}

-- a sink that had taken `old` has taken all of the text besides, or after a refusal a front of it
abbrev pub Puts : List ℕ → Option (List ℕ) → Option (List ℕ) → Result Unit IoFault → Type 0
Puts text old new (Ok r) = new ≡ option_map (λ t. t ++ text) old
Puts text old new (Err fault) = PutsFront text old new
