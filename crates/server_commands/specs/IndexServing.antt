-- `index-server -s FOLDER -l HOST:PORT -w`. Connections are served one after the other.
use Rattle.std.specs.Prelude.{ℕ, Bool, List, Option}
use Rattle.command_worlds.specs.Steps.{◌>>=◌}
use Rattle.command_worlds.specs.Worlds.{OnDisk, Step, World}
use Rattle.dsy_base.specs.Disk.{Disk}
use Rattle.dsy_base.specs.Maps.{Map}
use Rattle.index_server.specs.Talks.{index_protocol}
use Rattle.server_commands.specs.Serving.{FolderServed, Heard, ServesInTurn, ServesInTurnShort, TakenUnheard}

-- the folder was served so
abbrev pub IndexesServed : Heard → Bool → List ℕ → Option (Map (List ℕ)) → Step Disk Unit
IndexesServed h writable q held =
    FolderServed h q held (ServesInTurn (index_protocol writable) h) (ServesInTurnShort (index_protocol writable) h)

abbrev pub IndexServerEnds : Heard → List ℕ → Bool → Step World Unit
IndexServerEnds h folder writable = do
  held ← OnDisk (TakenUnheard h folder)
  OnDisk (IndexesServed h writable folder held)
