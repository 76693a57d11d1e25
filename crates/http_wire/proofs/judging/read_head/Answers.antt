use Rattle.http_wire.proofs.Judged.{taken_fits}
use Rattle.http_wire.proofs.judging.read_head.Goals as goal

pub returns-clause-size : goal.returns-clause-size
returns-clause-size c = λ taken.
    rw c.body_told.ensures (taken_fits c.args.limit c.args.writable c.method_of-named.result c.of-framing.result _ c.judged_method-method.ensures taken)
