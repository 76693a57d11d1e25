use Rattle.std.proofs.Common.{take, ap, ◌∙◌, arith}
use Rattle.http_serve.proofs.Streaming.{moved}
use Rattle.http_serve.proofs.receiving.receive_more.Goals as goal

pub returns-in-Ok-clause-ok : goal.returns-in-Ok-clause-ok
returns-in-Ok-clause-ok g c =
    moved _ _ _ _ c.min-n.result c.split_at.result.0.now _ _ (omega (arith, c.min-n.ensures, c.len.ensures)) c.in-Ok-true.ensures.ok (c.split_at.ensures.front ∙ ap (take c.min-n.result) c.as_slice.ensures.value) c.in-Ok.ensures.items c.skip.ensures
