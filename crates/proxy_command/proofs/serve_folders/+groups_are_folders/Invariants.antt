use Rattle.std.proofs.Common.{length}
use Rattle.proxy_command.proofs.serve_folders.+groups_are_folders.Given as goal

abbrev pub decreases-groups_are_folders : goal.decreases-groups_are_folders
decreases-groups_are_folders l = length l.groups.now
