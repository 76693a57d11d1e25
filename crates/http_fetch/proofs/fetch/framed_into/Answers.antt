use Rattle.std.proofs.Common.{List, ℕ, length, take, Ok, ap, sym, subst, ◌∙◌}
use Rattle.std.specs.Prelude.{IfSome}
use Rattle.http_fetch.proofs.Fetched.{takes_framed, unread_refuses}
use Rattle.http_fetch.specs.Fetching.{OnRefusal, RefusesGet, unfetched_of}
use Rattle.http_fetch.specs.declared.fetch.Unfetched.{Unfetched}
use Rattle.http_read.proofs.Heads.{says_on}
use Rattle.http_wire.specs.declared.reply.Method.TheVariants as method
use Rattle.http_fetch.proofs.fetch.framed_into.Goals as goal

pub returns-in-Ok-clause-ok : goal.returns-in-Ok-clause-ok
returns-in-Ok-clause-ok g c =
    let tr = (g.K.Link.state c.read_body.new.link).traffic in
    let says = says_on method.Get c.args.reply.received.head (Ok c.args.reply.head) _ tr c.read_body.ensures.kept c.requires.says in
    let Taken : List ℕ → Type 0 = g.T.Taker.has_taken c.take.new.self in
    let taken : Taken (take c.in-Ok.n c.read_body.new.out) = subst Taken c.split_at.ensures.front (c.take.ensures.taken _ c.requires.fresh) in
    takes_framed Taken _ tr c.args.reply.received.head c.args.reply.head c.read_body.new.out c.in-Ok.n c.requires.status says
    c.in-Ok.ensures.size c.read_body.auto.out taken c.in-Ok.ensures.ok

pub returns-in-Err-clause-err : goal.returns-in-Err-clause-err
returns-in-Err-clause-err g c =
    let tr = (g.K.Link.state c.read_body.new.link).traffic in
    let says = says_on method.Get c.args.reply.received.head (Ok c.args.reply.head) _ tr c.read_body.ensures.kept c.requires.says in
    let same = c.unfetched_of.ensures ∙ ap unfetched_of c.unanswered.ensures in
    let P : Unfetched → Type 0 = λ why. OnRefusal why (IfSome tr (λ t. RefusesGet (length c.args.out.now) t why)) in
    subst P (sym same)
    (unread_refuses (length c.args.out.now) tr c.args.reply.received.head c.args.reply.head _ c.in-Err.unread c.requires.status says
    c.requires.untold c.read_body.auto.out c.in-Err.ensures.first)
