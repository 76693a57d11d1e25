use Rattle.std.proofs.Common.{◌∙◌}
use Rattle.chunk_store.specs.Kinds.{kind_named}
use Rattle.locked_shelf.proofs.Keeping.{kept_read, reads_kept}
use Rattle.locked_shelf.proofs.kept.Kept.read.Goals as goal

pub invariant_of-self : goal.invariant_of-self
invariant_of-self g c = (
  c.read.ensures.kind ∙ c.self.invariant.0,
  kept_read (kind_named g.F.Folder.kind) g.F.Folder.opening c.args.id.now.0 _ _ _ c.read.ensures.bytes c.self.invariant.1,
)

pub returns-clause-bytes : goal.returns-clause-bytes
returns-clause-bytes g c = reads_kept (kind_named g.F.Folder.kind) g.F.Folder.opening g.F.Look.never_fails c.args.id.now.0 _ _ _ (g.met.F.Look.sure _) (g.met.F.Look.sure _) c.read.ensures.bytes c.self.invariant.1
