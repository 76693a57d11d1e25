use Rattle.std.proofs.Common.{None}
use Rattle.chunk_store.specs.Kinds.{kind_number}
use Rattle.locked_shelf.proofs.serve_folder.serve_folder.Given as goal

-- the folder as it was handed in, and the digest that names its chunks
abbrev pub ghosts-serve_named : goal.ghosts-serve_named
ghosts-serve_named g a = record {
  opening = g.F.Look.files a.folder;
  place = g.F.Look.place a.folder;
  faults = g.F.Look.faults a.folder;
  kind = kind_number a.rules.kind;
  pairs = None;
  stores = None;
}
