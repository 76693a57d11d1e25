use Rattle.std.proofs.Common.{None, []}
use Rattle.image_cases.proofs.prepare_tests.prepared.Given as goal

-- no cache
abbrev pub ghosts-run : goal.ghosts-run
ghosts-run g a = record { opening = None; place = []; faults = 0; kind = 0; pairs = None; stores = None }
