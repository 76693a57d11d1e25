use Rattle.std.proofs.Common.{refl, ◌∙◌}
use Rattle.cache_store.proofs.Stocked.{stocks_looked}
use Rattle.cache_store.specs.Shelves.{MayAdd, shelf_of}
use Rattle.chunk_store.specs.Kinds.{kind_named}
use Rattle.locked_cache.proofs.Stocking.{read_since, stocks_more}
use Rattle.locked_cache.proofs.stocked.StockedShelf.read.Goals as goal

pub invariant_of-self : goal.invariant_of-self
invariant_of-self g c =
    let takes = MayAdd (kind_named g.F.Folder.kind) g.F.Folder.pairs g.F.Folder.stores in
    let old = shelf_of g.F.Look.files g.F.Look.place g.F.Look.faults c.self.inside.shelf in
    let new = shelf_of g.F.Look.files g.F.Look.place g.F.Look.faults c.read.new.self in
    let e = c.read.ensures in (
      e.kind ∙ c.self.invariant.0,
      stocks_more takes g.F.Folder.opening old new
          (stocks_looked takes old new (record { files = e.kept; place = e.place; kind = e.kind; never_falls = e.faults.never_falls; others = refl }))
          c.self.invariant.1,
    )

pub returns-clause-bytes : goal.returns-clause-bytes
returns-clause-bytes g c =
    read_since (MayAdd (kind_named g.F.Folder.kind) g.F.Folder.pairs g.F.Folder.stores) g.F.Folder.opening (shelf_of g.F.Look.files g.F.Look.place g.F.Look.faults c.self.inside.shelf) c.args.id.now.0
    c.read.result c.read.new.lent c.self.invariant.1 c.read.ensures.bytes
