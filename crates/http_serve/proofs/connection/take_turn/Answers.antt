use Rattle.std.proofs.Common.{◌≡◌, Bool, true, false, Ok, ◌++◌, take, refl, sym, ap, subst, ◌∙◌}
use Rattle.std.specs.Prelude.{not}
use Rattle.http_wire.specs.ReplyText.{reply_head}
use Rattle.http_serve.specs.Answers.{answer_in}
use Rattle.http_serve.specs.Received.{asked_of}
use Rattle.http_serve.specs.Streams.{stream_in}
use Rattle.http_serve.specs.Turns.{ConnectionFails, Lingers, RequestsStop, Stays}
use Rattle.http_serve.proofs.Taking.{told_more, turn_broken, turn_closed, turn_cut, turn_lacks, turn_lingers, turn_none, turn_open, turn_unanswered}
use Rattle.http_serve.proofs.connection.take_turn.Goals as goal

stays_open : (b : Bool) → not b ≡ true → b ≡ false
stays_open true h = absurd (cc)
stays_open false h = refl

is_closed : (b : Bool) → not b ≡ false → b ≡ true
is_closed true h = refl
is_closed false h = absurd (cc)

pub returns-in-Ok-None-clause-closed : goal.returns-in-Ok-None-clause-closed
returns-in-Ok-None-clause-closed g c = λ h.
    let p = g.S.Service.protocol (g.S.Service.setting c.args.desk.now) in
    let same = g.met.S.Service.same (g.S.Service.setting c.args.desk.now) in
    let a = stream_in c.args.waiting.now.items (g.K.Link.state c.args.link.now).traffic in
    let none = c.in-Ok-None.ensures.absent (ap Ok c.in-Ok-None.field-0-is) in
    turn_none p same a _ (g.S.Service.state c.args.desk.now) c.receive_request.ensures.kept
    none

pub returns-in-Err-clause-cut : goal.returns-in-Err-clause-cut
returns-in-Err-clause-cut g c = λ h.
    let p = g.S.Service.protocol (g.S.Service.setting c.args.desk.now) in
    let same = g.met.S.Service.same (g.S.Service.setting c.args.desk.now) in
    turn_cut p same _ _ (g.S.Service.state c.args.desk.now) c.receive_request.ensures.kept

pub returns-in-Err-clause-lacking : goal.returns-in-Err-clause-lacking
returns-in-Err-clause-lacking g c = λ h.
    let p = g.S.Service.protocol (g.S.Service.setting c.args.desk.now) in
    let same = g.met.S.Service.same (g.S.Service.setting c.args.desk.now) in
    turn_lacks p same _ _ (g.S.Service.state c.args.desk.now) c.receive_request.ensures.kept

pub returns-in-Err-answer-clause-lacking : goal.returns-in-Err-answer-clause-lacking
returns-in-Err-answer-clause-lacking g c = λ h.
    let p = g.S.Service.protocol (g.S.Service.setting c.args.desk.now) in
    let same = g.met.S.Service.same (g.S.Service.setting c.args.desk.now) in
    let a = stream_in c.args.waiting.now.items (g.K.Link.state c.args.link.now).traffic in
    let b = stream_in c.receive_request.new.waiting.items (g.K.Link.state c.receive_request.new.link).traffic in
    let q = asked_of c.in-Ok-Some.received in
    let found = rw c.in-Ok-Some.field-0-is at c.in-Ok-Some.ensures.found in
    turn_unanswered p same q a b (g.S.Service.state c.args.desk.now) (g.S.Service.state c.answer.new.desk)
    found c.in-Err-answer.ensures.err c.in-Err-answer.ensures.unfailed

pub returns-in-Ok-send_reply-clause-open : goal.returns-in-Ok-send_reply-clause-open
returns-in-Ok-send_reply-clause-open g c = λ h.
    let p = g.S.Service.protocol (g.S.Service.setting c.args.desk.now) in
    let same = g.met.S.Service.same (g.S.Service.setting c.args.desk.now) in
    let a = stream_in c.args.waiting.now.items (g.K.Link.state c.args.link.now).traffic in
    let b = stream_in c.receive_request.new.waiting.items (g.K.Link.state c.receive_request.new.link).traffic in
    let q = asked_of c.in-Ok-Some.received in
    let close = c.closes-close.result in
    let bytes = reply_head c.in-Ok.reply.status c.in-Ok.reply.length close ++ c.in-Ok.reply.body.items in
    let found = rw c.in-Ok-Some.field-0-is at c.in-Ok-Some.ensures.found in
    let shut : close ≡ p.reading.closes c.in-Ok-Some.received.request = c.closes-close.ensures.value in
    let spelled = ap (λ t. reply_head c.in-Ok.reply.status c.in-Ok.reply.length t ++ c.in-Ok.reply.body.items) shut in
    let stays : not close ≡ true = cc in
    let end = stream_in c.receive_request.new.waiting.items (g.K.Link.state c.send_reply.new.link).traffic in
    let told = ap g.S.Service.state (sym c.send_reply.ensures.untouched) in
    subst (λ d. Stays p a (g.S.Service.state c.args.desk.now) end d) told
    (turn_open p same q (answer_in c.in-Ok.reply) a b _ (g.S.Service.state c.args.desk.now) (g.S.Service.state c.answer.new.desk) bytes
    found c.in-Ok.ensures.may c.in-Ok.ensures.ok
    (told_more c.receive_request.new.waiting.items bytes (g.K.Link.state c.receive_request.new.link).traffic (g.K.Link.state c.send_reply.new.link).traffic c.in-Ok-send_reply.ensures.ok) spelled (sym shut ∙ stays_open close stays))

pub returns-in-Ok-send_reply-clause-closed : goal.returns-in-Ok-send_reply-clause-closed
returns-in-Ok-send_reply-clause-closed g c = λ h.
    let p = g.S.Service.protocol (g.S.Service.setting c.args.desk.now) in
    let same = g.met.S.Service.same (g.S.Service.setting c.args.desk.now) in
    let a = stream_in c.args.waiting.now.items (g.K.Link.state c.args.link.now).traffic in
    let b = stream_in c.receive_request.new.waiting.items (g.K.Link.state c.receive_request.new.link).traffic in
    let q = asked_of c.in-Ok-Some.received in
    let close = c.closes-close.result in
    let bytes = reply_head c.in-Ok.reply.status c.in-Ok.reply.length close ++ c.in-Ok.reply.body.items in
    let found = rw c.in-Ok-Some.field-0-is at c.in-Ok-Some.ensures.found in
    let shut : close ≡ p.reading.closes c.in-Ok-Some.received.request = c.closes-close.ensures.value in
    let spelled = ap (λ t. reply_head c.in-Ok.reply.status c.in-Ok.reply.length t ++ c.in-Ok.reply.body.items) shut in
    let closed : not close ≡ false = cc in
    let end = stream_in c.receive_request.new.waiting.items (g.K.Link.state c.send_reply.new.link).traffic in
    let told = ap g.S.Service.state (sym c.send_reply.ensures.untouched) in
    subst (λ d. RequestsStop p a (g.S.Service.state c.args.desk.now) end d) told
    (turn_closed p same q (answer_in c.in-Ok.reply) a b _ (g.S.Service.state c.args.desk.now) (g.S.Service.state c.answer.new.desk) bytes
    found c.in-Ok.ensures.may c.in-Ok.ensures.ok
    (told_more c.receive_request.new.waiting.items bytes (g.K.Link.state c.receive_request.new.link).traffic (g.K.Link.state c.send_reply.new.link).traffic c.in-Ok-send_reply.ensures.ok) spelled (sym shut ∙ is_closed close closed))

pub returns-clause-cut : goal.returns-clause-cut
returns-clause-cut g c = λ h.
    let p = g.S.Service.protocol (g.S.Service.setting c.args.desk.now) in
    let same = g.met.S.Service.same (g.S.Service.setting c.args.desk.now) in
    let a = stream_in c.args.waiting.now.items (g.K.Link.state c.args.link.now).traffic in
    let b = stream_in c.receive_request.new.waiting.items (g.K.Link.state c.receive_request.new.link).traffic in
    let q = asked_of c.in-Ok-Some.received in
    let bytes = reply_head c.in-Ok.reply.status c.in-Ok.reply.length c.closes-close.result ++ c.in-Ok.reply.body.items in
    let found = rw c.in-Ok-Some.field-0-is at c.in-Ok-Some.ensures.found in
    let shut : c.closes-close.result ≡ p.reading.closes c.in-Ok-Some.received.request = c.closes-close.ensures.value in
    let spelled = ap (λ t. reply_head c.in-Ok.reply.status c.in-Ok.reply.length t ++ c.in-Ok.reply.body.items) shut in
    let n = c.in-Err-send_reply.ensures.err.0 in
    let end = stream_in c.receive_request.new.waiting.items (g.K.Link.state c.send_reply.new.link).traffic in
    let told = ap g.S.Service.state (sym c.send_reply.ensures.untouched) in
    subst (λ d. ConnectionFails p a (g.S.Service.state c.args.desk.now) end d) told
    (turn_broken p same q (answer_in c.in-Ok.reply) a b _ (g.S.Service.state c.args.desk.now) (g.S.Service.state c.answer.new.desk) (take n bytes)
    found c.in-Ok.ensures.may c.in-Ok.ensures.ok n
    (told_more c.receive_request.new.waiting.items (take n bytes) (g.K.Link.state c.receive_request.new.link).traffic (g.K.Link.state c.send_reply.new.link).traffic c.in-Err-send_reply.ensures.err.1) (ap (take n) spelled))

pub returns-clause-lacking : goal.returns-clause-lacking
returns-clause-lacking g c = λ h.
    let p = g.S.Service.protocol (g.S.Service.setting c.args.desk.now) in
    let same = g.met.S.Service.same (g.S.Service.setting c.args.desk.now) in
    let a = stream_in c.args.waiting.now.items (g.K.Link.state c.args.link.now).traffic in
    let b = stream_in c.receive_request.new.waiting.items (g.K.Link.state c.receive_request.new.link).traffic in
    let q = asked_of c.in-Ok-Some.received in
    let bytes = reply_head c.in-Ok.reply.status c.in-Ok.reply.length c.closes-close.result ++ c.in-Ok.reply.body.items in
    let found = rw c.in-Ok-Some.field-0-is at c.in-Ok-Some.ensures.found in
    let shut : c.closes-close.result ≡ p.reading.closes c.in-Ok-Some.received.request = c.closes-close.ensures.value in
    let spelled = ap (λ t. reply_head c.in-Ok.reply.status c.in-Ok.reply.length t ++ c.in-Ok.reply.body.items) shut in
    let n = c.in-Err-send_reply.ensures.err.0 in
    let end = stream_in c.receive_request.new.waiting.items (g.K.Link.state c.send_reply.new.link).traffic in
    let told = ap g.S.Service.state (sym c.send_reply.ensures.untouched) in
    subst (λ d. Lingers p a (g.S.Service.state c.args.desk.now) end d) told
    (turn_lingers p same q (answer_in c.in-Ok.reply) a b _ (g.S.Service.state c.args.desk.now) (g.S.Service.state c.answer.new.desk) (take n bytes)
    found c.in-Ok.ensures.may c.in-Ok.ensures.ok n
    (told_more c.receive_request.new.waiting.items (take n bytes) (g.K.Link.state c.receive_request.new.link).traffic (g.K.Link.state c.send_reply.new.link).traffic c.in-Err-send_reply.ensures.err.1) (ap (take n) spelled))
