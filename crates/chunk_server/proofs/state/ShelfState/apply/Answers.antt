use Rattle.std.proofs.Common.{refl, arith}
use Rattle.chunk_server.proofs.Stepped.{lost_goes, put_refused, ok_more}
use Rattle.chunk_server.proofs.state.ShelfState.apply.Goals as goal

pub returns-in-Get-clause-ok : goal.returns-in-Get-clause-ok
returns-in-Get-clause-ok g c =
    rw (c.in-Get.is, ← c.self.view_is) (ok_more c.reply.result (λ r h. h _ _ c.args.body.now c.read.ensures.bytes) c.reply.ensures.ok)

pub returns-in-Head-clause-ok : goal.returns-in-Head-clause-ok
returns-in-Head-clause-ok g c =
    rw (c.in-Head.is, ← c.self-in-Head.view_is) (ok_more c.reply-in-Head.result (λ r h. h _ _ c.args.body.now c.read-in-Head.ensures.bytes) c.reply-in-Head.ensures.ok)

pub returns-then-not-is_of-clause-ok : goal.returns-then-not-is_of-clause-ok
returns-then-not-is_of-clause-ok g c =
    rw (c.in-Put.is, ← c.self-in-Put.view_is) (put_refused c.self-in-Put.inside.kind _ _ c.in-Put.id c.args.body.now _ (c.if-not-is_of.ensures.only refl) c.bare.ensures refl (omega arith))

pub returns-in-Lost-clause-ok : goal.returns-in-Lost-clause-ok
returns-in-Lost-clause-ok g c = rw c.in-Lost.is (lost_goes c.args.self.now.kind _ _ c.args.body.now _ c.bare-in-Lost.ensures refl (omega arith))
