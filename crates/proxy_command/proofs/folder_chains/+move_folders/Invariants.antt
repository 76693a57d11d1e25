use Rattle.std.proofs.Common.{length}
use Rattle.proxy_command.proofs.folder_chains.+move_folders.Given as goal

abbrev pub decreases-move_folders : goal.decreases-move_folders
decreases-move_folders g l = length l.from.items
