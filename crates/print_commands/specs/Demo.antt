-- `demo NUMBER SIZE`.
use Rattle.std.specs.Prelude.{ℕ, Result, Ok, Err}
use Rattle.chunk_store.specs.declared.id.DigestKind.{DigestKind}
use Rattle.command_outcome.specs.declared.outcome.Outcome.{Outcome}
use Rattle.command_outcome.specs.declared.outcome.Outcome.TheVariants as ends
use Rattle.command_worlds.specs.Printing.{Printed}
use Rattle.command_worlds.specs.Steps.{◌>>=◌}
use Rattle.command_worlds.specs.Worlds.{OnOut, Pure, Step, World}
use Rattle.image_demo.specs.Figures.{AreFigures, HasTwoPieces, text_of_figures}
use Rattle.image_demo.specs.Images.{usual_sizes}
use Rattle.image_demo.specs.declared.figures.Figures.{Figures}

-- making, storing and extracting the image of NUMBER and SIZE in memory, its chunks named by this digest, gave its
-- figures, or an id that two unequal pieces of bytes have, none larger than a chunk
abbrev pub Rehearsed : DigestKind → ℕ → ℕ → Result Figures Outcome → Type 0
Rehearsed kind number size (Ok f) = AreFigures kind number size f
Rehearsed kind number size (Err (ends.Mismatch k got)) = HasTwoPieces kind usual_sizes.greatest got.0
Rehearsed kind number size (Err ends.Memory) = Unit {0}
Rehearsed kind number size (Err other) = ⊥

abbrev pub DemoEnds : DigestKind → ℕ → ℕ → Step World Unit
DemoEnds kind number size = do
  f ← Pure (Rehearsed kind number size)
  OnOut (Printed (text_of_figures f))
