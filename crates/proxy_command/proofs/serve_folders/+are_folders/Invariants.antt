use Rattle.std.proofs.Common.{length}
use Rattle.proxy_command.proofs.serve_folders.+are_folders.Given as goal

abbrev pub decreases-are_folders : goal.decreases-are_folders
decreases-are_folders l = length l.stores.now
