use Rattle.chunk_server.proofs.Stepped.{refuse_goes}
use Rattle.chunk_server.proofs.shelf_service.ShelfServiceService.answer.Goals as goal

pub returns-in-Refuse-clause-ok : goal.returns-in-Refuse-clause-ok
returns-in-Refuse-clause-ok g c = refuse_goes (g.H.Shelf.digest c.args.desk.now) (g.H.Shelf.state c.args.desk.now) c.args.request.now.act c.in-Refuse.status c.args.body.now _ c.in-Refuse.is c.bare.ensures
