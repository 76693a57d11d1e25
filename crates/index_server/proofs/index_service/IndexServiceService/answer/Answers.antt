use Rattle.index_server.specs.Answers.{index_folder}
use Rattle.index_server.proofs.Answered.{always, refuse_goes}
use Rattle.index_server.proofs.index_service.IndexServiceService.answer.Goals as goal

pub returns-in-Refuse-clause-ok : goal.returns-in-Refuse-clause-ok
returns-in-Refuse-clause-ok g c =
    always (g.F.Look.files c.args.desk.now.folder) (λ m. refuse_goes (index_folder g.F.Look.files g.F.Look.faults c.args.desk.now.folder) c.args.request.now.act c.in-Refuse.status c.args.body.now _ c.in-Refuse.is c.bare.ensures)
