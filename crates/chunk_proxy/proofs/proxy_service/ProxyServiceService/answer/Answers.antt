use Rattle.chunk_proxy.proofs.Stepped.{refuse_stands}
use Rattle.chunk_proxy.specs.Leaving.{leaves_same}
use Rattle.chunk_proxy.proofs.proxy_service.ProxyServiceService.answer.Goals as goal

pub returns-in-Refuse-clause-ok : goal.returns-in-Refuse-clause-ok
returns-in-Refuse-clause-ok g c =
    refuse_stands _ _ c.args.request.now.act c.in-Refuse.status (g.F.Look.files c.args.desk.now.shelf.folder) c.args.desk.now.chain.asks _ _ c.in-Refuse.is c.bare.ensures

pub returns-in-Refuse-clause-changed : goal.returns-in-Refuse-clause-changed
returns-in-Refuse-clause-changed g c = leaves_same g.F.Look.files g.F.Look.place g.F.Look.faults g.S.Store c.args.desk.now
