use Rattle.chunk_store.specs.Kinds.{kind_named}
use Rattle.locked_shelf.specs.Endings.{EndsOver}
use Rattle.locked_shelf.proofs.Counting.{serves_none}
use Rattle.locked_shelf.proofs.serve_folder.serve_named.Goals as goal

pub returns-in-Err-clause-lacking : goal.returns-in-Err-clause-lacking
returns-in-Err-clause-lacking g c = serves_none (EndsOver (kind_named g.N.FolderName.kind) g.N.FolderName.opening g.F.Look.never_fails c.args.rules.writable g.L.Link.Link.tells) (g.L.Listen.state c.args.listen.now)
