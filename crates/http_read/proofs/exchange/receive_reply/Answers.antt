use Rattle.std.proofs.Common.{sym, subst, ◌∙◌, Ok, Err}
use Rattle.http_read.proofs.Heads.{counts_early, refused_early, refused_head, says_head}
use Rattle.http_read.specs.Reads.{CountsReply, IfBad}
use Rattle.http_read.specs.Refusals.{IsRefusedByHead}
use Rattle.http_read.specs.declared.exchange.Reply.{Reply}
use Rattle.http_read.specs.declared.fault.Unanswered.{Unanswered}
use Rattle.std.specs.Prelude.{IfSome}
use Rattle.http_read.proofs.exchange.receive_reply.Goals as goal

pub returns-in-Err-clause-bad : goal.returns-in-Err-clause-bad
returns-in-Err-clause-bad g c =
    let P : Unanswered → Type 0 = λ u. IfBad {A = Reply} (Err u)
    (λ reason. IfSome (g.K.Link.state c.receive.new.link).traffic (λ t. IsRefusedByHead c.args.method t reason)) in
    subst P (sym c.unanswered.ensures) (refused_early Reply c.args.method c.in-Err.unread _ c.in-Err.ensures.absent)

pub returns-in-Err-clause-faults : goal.returns-in-Err-clause-faults
returns-in-Err-clause-faults g c =
    let P : Unanswered → Type 0 = λ u. CountsReply {A = Reply} (g.K.Link.state c.args.link.now).faults
    (g.K.Link.state c.receive.new.link).faults (Err u) in
    subst P (sym c.unanswered.ensures) (counts_early Reply c.in-Err.unread _ _ c.in-Err.ensures.faults)

pub returns-in-Ok-read_reply-clause-ok : goal.returns-in-Ok-read_reply-clause-ok
returns-in-Ok-read_reply-clause-ok g c =
    says_head c.args.method c.in-Ok.received.head c.in-Ok.received.filled c.receive.new.buffer c.split_at.result.0.now
    (Ok c.in-Ok-read_reply.head) _ c.in-Ok.ensures.inside.0 c.in-Ok.ensures.inside.1 (c.receive.auto.buffer ∙ c.requires.size)
    c.in-Ok.ensures.found c.split_at.ensures.front c.in-Ok-read_reply.ensures.found c.in-Ok-read_reply.ensures.absent c.in-Ok.ensures.bytes

pub returns-in-Err-read_reply-clause-bad : goal.returns-in-Err-read_reply-clause-bad
returns-in-Err-read_reply-clause-bad g c =
    refused_head c.args.method c.in-Ok.received.head c.in-Err-read_reply.fault _
    (says_head c.args.method c.in-Ok.received.head c.in-Ok.received.filled c.receive.new.buffer c.split_at.result.0.now
    (Err c.in-Err-read_reply.fault) _ c.in-Ok.ensures.inside.0 c.in-Ok.ensures.inside.1 (c.receive.auto.buffer ∙ c.requires.size)
    c.in-Ok.ensures.found c.split_at.ensures.front c.in-Err-read_reply.ensures.found c.in-Err-read_reply.ensures.absent c.in-Ok.ensures.bytes)
