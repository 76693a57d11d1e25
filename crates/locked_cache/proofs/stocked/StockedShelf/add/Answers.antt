use Rattle.std.proofs.Common.{◌∙◌, refl}
use Rattle.cache_store.specs.Shelves.{MayAdd, shelf_of}
use Rattle.chunk_store.specs.Kinds.{kind_named}
use Rattle.locked_cache.proofs.Stocking.{stocks_added}
use Rattle.locked_cache.proofs.stocked.StockedShelf.add.Goals as goal

pub invariant_of-self : goal.invariant_of-self
invariant_of-self g c =
    let old = shelf_of g.F.Look.files g.F.Look.place g.F.Look.faults c.self.inside.shelf in
    let new = shelf_of g.F.Look.files g.F.Look.place g.F.Look.faults c.add.new.self in
    let e = c.add.ensures in (
      e.kind ∙ c.self.invariant.0,
      stocks_added (MayAdd (kind_named g.F.Folder.kind) g.F.Folder.pairs g.F.Folder.stores) g.F.Folder.opening c.args.id.now.0 c.args.b.now c.id_has_32_bytes.ensures.size
          (λ m. c.put_changes_one_chunk.ensures.holds _ _ m c.id_has_32_bytes.ensures.size) (λ x m. c.put_changes_one_chunk.ensures.kept _ x m) c.put_leaves_a_temporary.ensures.named c.chunk_names.ensures.exactly
          old new e.place e.kind e.faults.never_falls refl c.requires.may c.add.result e.ok e.err c.self.invariant.1,
    )
