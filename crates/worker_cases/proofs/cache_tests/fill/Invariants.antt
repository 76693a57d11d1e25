use Rattle.std.proofs.Common.{None}
use Rattle.worker_cases.proofs.cache_tests.fill.Given as goal

-- the folder as it was handed in, to which any chunk of SHA-512/256 may be added
abbrev pub ghosts-filled : goal.ghosts-filled
ghosts-filled g a = record {
  opening = g.F.Look.files a.folder;
  place = g.F.Look.place a.folder;
  faults = g.F.Look.faults a.folder;
  kind = 0;
  pairs = None;
  stores = None;
}
