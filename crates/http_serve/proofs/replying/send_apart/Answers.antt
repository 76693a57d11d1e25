use Rattle.http_serve.proofs.Sending.{second_part}
use Rattle.http_serve.proofs.replying.send_apart.Goals as goal

pub returns-in-Ok-clause-err : goal.returns-in-Ok-clause-err
returns-in-Ok-clause-err g c =
    second_part c.write-in-Ok.result c.args.head.now c.args.body.now (g.K.Link.state c.args.link.now).traffic (g.K.Link.state c.write.new.self).traffic (g.K.Link.state c.write-in-Ok.new.self).traffic c.in-Ok.ensures.ok c.write-in-Ok.ensures.err c.write-in-Ok.ensures.kept
