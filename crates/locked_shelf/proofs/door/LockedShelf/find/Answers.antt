use Rattle.chunk_store.specs.Kinds.{kind_named}
use Rattle.locked_shelf.proofs.Replying.{may_read}
use Rattle.locked_shelf.proofs.door.LockedShelf.find.Goals as goal

pub returns-clause-may : goal.returns-clause-may
returns-clause-may g c =
    may_read (kind_named g.F.Folder.kind) g.F.Folder.opening g.F.Look.never_fails c.args.method c.args.id.now _ c.reply.result c.read.ensures.bytes (rw c.self.invariant at c.reply.ensures.ok)
