-- Printing a text.
use Rattle.std.specs.Prelude.{◌≡◌, ◌≤◌, ℕ, List, ◌++◌, Result, Ok, Err}
use Rattle.std.specs.Option.{option_map}
use Rattle.dsy_base.specs.Disk.{PutsFront}
use Rattle.command_outcome.specs.declared.outcome.Outcome.{Outcome}
use Rattle.command_outcome.specs.declared.outcome.Outcome.TheVariants as ends
use Rattle.command_worlds.specs.Worlds.{Step}
use Rattle.dsy_base.specs.Counts.{Rose}
use Rattle.dsy_base.specs.Disk.{Output}
use Rattle.dsy_base.specs.declared.fault.IoFault.{IoFault}
use Rattle.dsy_base.specs.declared.fault.IoFault.TheVariants as faults

-- the text was printed, or a front of it
abbrev pub Prints : Output → Output → List ℕ → Result Unit Outcome → Type 0
Prints p q text (Ok u) = q.taken ≡ option_map (λ t. t ++ text) p.taken
Prints p q text (Err ends.OutFault) = Rose p.faults q.faults × PutsFront text p.taken q.taken
Prints p q text (Err ends.Memory) = PutsFront text p.taken q.taken
Prints p q text (Err other) = ⊥

abbrev pub Printed : List ℕ → Step Output Unit
Printed text p r q = Prints p q text r × (p.faults ≤ q.faults)

-- the answer after printing
abbrev pub answer_of_put : Result Unit IoFault → Result Unit Outcome
answer_of_put (Ok u) = Ok u
answer_of_put (Err faults.Failed) = Err ends.OutFault
answer_of_put (Err faults.Memory) = Err ends.Memory
