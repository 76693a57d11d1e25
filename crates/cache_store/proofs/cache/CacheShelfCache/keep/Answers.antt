use Rattle.std.proofs.Common.{refl}
use Rattle.cache_store.proofs.Added.{added_answer, added_stocks}
use Rattle.cache_store.specs.Shelves.{shelf_of}
use Rattle.cache_store.specs.Through.{kept_by}
use Rattle.cache_store.proofs.cache.CacheShelfCache.keep.Goals as goal

pub returns-clause-added : goal.returns-clause-added
returns-clause-added g c =
    added_answer c.args.id.now.0 c.args.b.now (shelf_of g.F.Look.files g.F.Look.place g.F.Look.faults c.args.self.now) (shelf_of g.F.Look.files g.F.Look.place g.F.Look.faults c.add.new.self)
    c.add.result c.add.ensures.ok c.add.ensures.err c.add.ensures.faults.cause

pub returns-clause-stocks : goal.returns-clause-stocks
returns-clause-stocks g c =
    added_stocks c.args.id.now.0 c.args.b.now c.id_has_32_bytes.ensures.size (λ m. c.put_changes_one_chunk.ensures.holds _ _ m c.id_has_32_bytes.ensures.size)
    (λ x m. c.put_changes_one_chunk.ensures.kept _ x m) c.put_leaves_a_temporary.ensures.named c.chunk_names.ensures.exactly
    (shelf_of g.F.Look.files g.F.Look.place g.F.Look.faults c.args.self.now) (shelf_of g.F.Look.files g.F.Look.place g.F.Look.faults c.add.new.self)
    c.add.ensures.place c.add.ensures.kind c.add.ensures.faults.never_falls refl (kept_by c.add.result) (returns-clause-added g c)
