use Rattle.chunk_store.specs.Kinds.{kind_named}
use Rattle.locked_proxy.specs.Replies.{EndsThrough}
use Rattle.locked_shelf.proofs.Counting.{serves_none}
use Rattle.locked_proxy.proofs.serve_cache.serve_named.Goals as goal

pub returns-in-Err-clause-lacking : goal.returns-in-Err-clause-lacking
returns-in-Err-clause-lacking g c =
    serves_none (EndsThrough (kind_named g.N.FolderName.kind) g.N.FolderName.opening g.P.ProxyName.maps g.F.Look.never_fails g.S.Store.never_fails g.L.Link.Link.tells) (g.L.Listen.state c.args.listen.now)
