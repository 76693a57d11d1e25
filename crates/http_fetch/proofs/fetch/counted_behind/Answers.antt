use Rattle.std.proofs.Common.{Ok, ap, sym, subst, ◌∙◌}
use Rattle.std.specs.Prelude.{IfSome}
use Rattle.http_fetch.proofs.Fetched.{refuses_longer, takes_counted, uncounted_refuses}
use Rattle.http_fetch.specs.Fetching.{OnRefusal, RefusesGet, unfetched_of}
use Rattle.http_fetch.specs.declared.fetch.Unfetched.{Unfetched}
use Rattle.http_read.proofs.Heads.{says_on}
use Rattle.http_read.proofs.Streams.{receives_nothing}
use Rattle.http_wire.specs.declared.reply.Method.TheVariants as method
use Rattle.http_fetch.proofs.fetch.counted_behind.Goals as goal

pub returns-then-size-most-clause-err : goal.returns-then-size-most-clause-err
returns-then-size-most-clause-err g c =
    refuses_longer c.args.most (g.K.Link.state c.args.link.now).traffic c.args.reply.received.head c.args.reply.head c.args.size
    c.requires.status c.requires.says c.requires.size c.if-size-most.true

pub returns-then-size-most-clause-kept : goal.returns-then-size-most-clause-kept
returns-then-size-most-clause-kept g c = receives_nothing _

pub returns-in-Ok-clause-ok : goal.returns-in-Ok-clause-ok
returns-in-Ok-clause-ok g c =
    let tr = (g.K.Link.state c.take_counted.new.link).traffic in
    let says = says_on method.Get c.args.reply.received.head (Ok c.args.reply.head) _ tr c.take_counted.ensures.kept c.requires.says in
    takes_counted (g.T.Taker.has_taken c.take_counted.new.taker) c.args.most tr c.args.reply.received.head c.args.reply.head c.args.size
    c.requires.status says c.requires.size c.if-size-most.false c.in-Ok.ensures.ok

pub returns-in-Err-clause-err : goal.returns-in-Err-clause-err
returns-in-Err-clause-err g c =
    let tr = (g.K.Link.state c.take_counted.new.link).traffic in
    let says = says_on method.Get c.args.reply.received.head (Ok c.args.reply.head) _ tr c.take_counted.ensures.kept c.requires.says in
    let same = c.unfetched_of.ensures ∙ ap unfetched_of c.unanswered.ensures in
    let P : Unfetched → Type 0 = λ why. OnRefusal why (IfSome tr (λ t. RefusesGet c.args.most t why)) in
    subst P (sym same)
    (uncounted_refuses c.args.most tr c.args.reply.received.head c.args.reply.head c.args.size c.in-Err.unread
    c.requires.status says c.requires.size c.if-size-most.false c.in-Err.ensures.first)
