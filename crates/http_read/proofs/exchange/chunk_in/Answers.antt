use Rattle.std.proofs.Common.{Ok, subst, sym}
use Rattle.std.specs.Prelude.{IfOk, IfSome, Option, Result, length}
use Rattle.http_read.proofs.Given.{Behind, gives, refuses}
use Rattle.http_read.proofs.Heads.{refused_by_head, says_on}
use Rattle.http_read.proofs.Streams.{receives_more}
use Rattle.http_read.specs.Answers.{AnswersGet}
use Rattle.http_read.specs.Reads.{IfBad}
use Rattle.http_read.specs.Refusals.{IsRefused}
use Rattle.http_read.specs.declared.exchange.Got.{Got}
use Rattle.http_read.specs.declared.exchange.Reply.{Reply}
use Rattle.http_read.specs.declared.fault.Unanswered.{Unanswered}
use Rattle.http_wire.specs.declared.reply.Method.TheVariants as method
use Rattle.http_read.proofs.exchange.chunk_in.Goals as goal

pub returns-in-Err-clause-bad : goal.returns-in-Err-clause-bad
returns-in-Err-clause-bad g c = refused_by_head (Option Reply) Got method.Get _ _ c.in-Err.refused c.in-Err.ensures.err

pub returns-clause-ok : goal.returns-clause-ok
returns-clause-ok g c =
    let tr = (g.K.Link.state c.read_body-read.new.link).traffic in
    let found = rw (c.in-Ok-Some.field-0-is) at c.in-Ok-Some.ensures.ok in
    let behind : Behind tr c.in-Ok-Some.reply.received.head c.in-Ok-Some.reply.head c.read_body-read.new.out c.read_body-read.result = record {
      status = found.0;
      says = says_on method.Get c.in-Ok-Some.reply.received.head (Ok c.in-Ok-Some.reply.head) _ tr c.read_body-read.ensures.kept found.1;
      inside = c.read_body-read.ensures.size;
      ok = c.read_body-read.ensures.ok;
      first = c.read_body-read.ensures.first;
    } in
    let P : Result Got Unanswered → Type 0 = λ r. IfOk r (λ got. AnswersGet got c.read_body-read.new.out tr) in
    subst P (sym c.chunk_of.ensures) (gives tr c.in-Ok-Some.reply.received.head c.in-Ok-Some.reply.head c.read_body-read.new.out c.read_body-read.result behind)

pub returns-clause-bad : goal.returns-clause-bad
returns-clause-bad g c =
    let tr = (g.K.Link.state c.read_body-read.new.link).traffic in
    let found = rw (c.in-Ok-Some.field-0-is) at c.in-Ok-Some.ensures.ok in
    let behind : Behind tr c.in-Ok-Some.reply.received.head c.in-Ok-Some.reply.head c.read_body-read.new.out c.read_body-read.result = record {
      status = found.0;
      says = says_on method.Get c.in-Ok-Some.reply.received.head (Ok c.in-Ok-Some.reply.head) _ tr c.read_body-read.ensures.kept found.1;
      inside = c.read_body-read.ensures.size;
      ok = c.read_body-read.ensures.ok;
      first = c.read_body-read.ensures.first;
    } in
    let P : Result Got Unanswered → Type 0 = λ r. IfBad r (λ reason. IfSome tr (λ t. IsRefused method.Get (length c.read_body-read.new.out) t reason)) in
    subst P (sym c.chunk_of.ensures) (refuses tr c.in-Ok-Some.reply.received.head c.in-Ok-Some.reply.head c.read_body-read.new.out c.read_body-read.result behind)

pub returns-clause-kept : goal.returns-clause-kept
returns-clause-kept g c = receives_more _ _ _ c.reply_to_get.ensures.kept c.read_body-read.ensures.kept
