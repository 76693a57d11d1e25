use Rattle.index_server.proofs.Answered.{ok_more}
use Rattle.index_server.proofs.state.IndexState.find.Goals as goal

pub returns-clause-only : goal.returns-clause-only
returns-clause-only g c = ok_more c.reply.result (λ r h. λ body. h c.args.name.now body) c.reply.ensures.only

pub returns-clause-ok : goal.returns-clause-ok
returns-clause-ok g c =
    rw (← c.self.view_is) (ok_more c.reply.result (λ r h. λ body. h _ _ c.args.name.now body c.read-found.ensures.found) c.reply.ensures.ok)
