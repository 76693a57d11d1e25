use Rattle.std.proofs.Common.{rules}
use Rattle.locked_shelf.proofs.serve_all.serve_scoped.Goals as goal

-- the listener is what the scope gave back of it, once the last connections were given back
pub returns : goal.returns
returns g c =
    let was = c.scoped-back.ensures.1.1 in
    let heard = c.give_back.ensures.ended.back (g.L.Listen.state c.args.listen.now) was.heard in
    search rules
