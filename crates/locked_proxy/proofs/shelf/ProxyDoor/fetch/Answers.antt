use Rattle.chunk_store.specs.Kinds.{kind_named}
use Rattle.locked_proxy.proofs.Replying.{may_after}
use Rattle.locked_proxy.proofs.shelf.ProxyDoor.fetch.Goals as goal

pub returns-clause-ok : goal.returns-clause-ok
returns-clause-ok g c =
    may_after (kind_named g.F.Folder.kind) c.args.id.now g.F.Folder.opening g.N.ProxyName.maps g.F.Look.never_fails g.S.Store.never_fails c.args.method c.in_ok-found.found c.supply.result c.if-found-eq200.false c.in_ok-found.ensures.may
    c.supply.ensures.ok
