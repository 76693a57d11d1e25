-- `list-chunks INDEX`.
use Rattle.std.specs.Prelude.{ℕ, List}
use Rattle.verify_tool.specs.Texts.{text_of_chunks}
use Rattle.command_indexes.specs.Gets.{IndexGot}
use Rattle.command_steps.specs.Sources.{OnStorage}
use Rattle.command_worlds.specs.Printing.{Printed}
use Rattle.command_worlds.specs.Steps.{◌>>=◌}
use Rattle.command_worlds.specs.Worlds.{OnOut, Step, World}

abbrev pub ListChunksEnds : List ℕ → Step World Unit
ListChunksEnds index = do
  l ← OnStorage (IndexGot index)
  OnOut (Printed (text_of_chunks l))
