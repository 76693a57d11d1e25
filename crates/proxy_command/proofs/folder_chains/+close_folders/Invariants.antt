use Rattle.std.proofs.Common.{length}
use Rattle.proxy_command.proofs.folder_chains.+close_folders.Given as goal

abbrev pub decreases-close_folders : goal.decreases-close_folders
decreases-close_folders g l = length l.folders.items
