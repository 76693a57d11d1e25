-- Text that is put in blocks.
use Rattle.std.specs.Prelude.{◌≡◌, ℕ, List, ◌++◌, Option, Result, Ok, Err, option_map}
use Rattle.dsy_base.specs.declared.fault.IoFault.{IoFault}
use Rattle.dsy_base.specs.Disk.{PutsFront}

-- of the text all but `left` at its end has gone to the sink
abbrev pub PutsAllBut : List ℕ → Option (List ℕ) → Option (List ℕ) → List ℕ → Type 0
PutsAllBut text old new left = (p : List ℕ) × (text ≡ p ++ left) × (new ≡ option_map (λ t. t ++ p) old)

-- so has it, or after a refusal a prefix
abbrev pub PutsBlock : List ℕ → Option (List ℕ) → Option (List ℕ) → List ℕ → Result Unit IoFault → Type 0
PutsBlock text old new left (Ok r) = PutsAllBut text old new left
PutsBlock text old new left (Err fault) = PutsFront text old new
