use Rattle.std.proofs.Common.{◌∙◌, refl}
use Rattle.chunk_store.specs.Kinds.{kind_named}
use Rattle.http_wire.specs.declared.request.Act.TheVariants as act
use Rattle.locked_shelf.proofs.Keeping.{kept_after}
use Rattle.locked_shelf.proofs.Replying.{may_reply, taken_if_named}
use Rattle.locked_shelf.proofs.kept.Kept.put.Goals as goal

pub invariant_of-self : goal.invariant_of-self
invariant_of-self g c = (
  c.put.ensures.kind ∙ c.self.invariant.0,
  kept_after (kind_named g.F.Folder.kind) _ g.F.Folder.opening c.args.id.now c.args.body.now c.put.result _ _ c.chunk_is_no_temporary.ensures.only c.chunk_names.ensures.exactly c.put_leaves_a_temporary.ensures.named c.put_changes_one_chunk.ensures.holds c.id_has_32_bytes.ensures.size c.requires.size c.self.invariant.0
      c.put.ensures.ok c.put.ensures.err c.self.invariant.1,
)

pub returns-clause-may : goal.returns-clause-may
returns-clause-may g c =
    may_reply (kind_named g.F.Folder.kind) _ g.F.Folder.opening g.F.Look.never_fails (act.Put c.args.id.now) c.args.body.now c.put.result _ _ (g.met.F.Look.sure _) (g.met.F.Look.sure _) refl c.self.invariant.0
    (taken_if_named (kind_named g.F.Folder.kind) _ c.args.id.now c.args.body.now c.put.result c.requires.named c.self.invariant.0) c.put.ensures.ok c.self.invariant.1
