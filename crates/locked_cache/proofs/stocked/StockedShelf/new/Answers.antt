use Rattle.cache_store.specs.Shelves.{MayAdd, shelf_of}
use Rattle.chunk_store.specs.Kinds.{kind_named}
use Rattle.locked_cache.proofs.Stocking.{stocks_begun}
use Rattle.locked_cache.proofs.stocked.StockedShelf.new.Goals as goal

pub invariant_of-result : goal.invariant_of-result
invariant_of-result g c = (
  c.requires.kind,
  stocks_begun (MayAdd (kind_named g.F.Folder.kind) g.F.Folder.pairs g.F.Folder.stores) g.F.Folder.opening (shelf_of g.F.Look.files g.F.Look.place g.F.Look.faults c.args.shelf) c.requires.opening,
)
