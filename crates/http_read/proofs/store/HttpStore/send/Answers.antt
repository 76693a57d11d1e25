use Rattle.std.proofs.Common.{◌++◌, ap, sym, subst, ◌∙◌}
use Rattle.std.specs.Prelude.{IfSome}
use Rattle.http_read.proofs.Called.{Exchange, calls}
use Rattle.http_read.specs.Asks.{IsFront, asks_put}
use Rattle.http_read.specs.Reads.{IfBad}
use Rattle.http_read.specs.Refusals.{IsBadReply}
use Rattle.http_read.specs.Remotes.{log_of}
use Rattle.http_wire.specs.declared.reply.Method.TheVariants as method
use Rattle.http_read.proofs.store.HttpStore.send.Goals as goal

pub returns-clause-calls : goal.returns-clause-calls
returns-clause-calls g c =
    let link = g.D.Link.Link.state c.put_on-answer.new.link in
    let ask = asks_put c.args.self.now.server c.args.id.now.0 c.args.b.now in
    let text = ap (λ a. a ++ c.args.b.now) (c.as_str.ensures.value ∙ c.in-Ok.ensures) in
    let old = log_of g.D.Dial.state c.args.self.now in
    let mid = log_of g.D.Dial.state c.dial.new.self in
    let new = log_of g.D.Dial.state c.close.new.self in
    let e : Exchange (Unit {0}) method.Put ask 0 old mid new link.traffic (g.D.Link.Link.state c.in_ok-link.link).faults link.faults c.put_on-answer.result c.close.result = record {
      dialed = c.dial.ensures.ended;
      kept = c.dial.ensures.kept;
      quiet = c.in_ok-link.ensures.faults.done;
      fresh = c.in_ok-link.ensures.fresh.unfailed;
      counted = c.put_on-answer.ensures.faults;
      value = c.close.ensures.value;
      ended = c.close.ensures.ended;
      added = c.close.ensures.faults;
      notes = c.close.ensures.notes;
      told = λ some. g.met.D.Link.Link.told c.put_on-answer.new.link ∙ g.met.D.Dial.alike (sym (g.met.D.Dial.told c.args.self.now.dial) ∙ some);
      sent = subst (λ a. IfSome link.traffic (λ t. IsFront a t.sent)) text c.put_on-answer.ensures.sent;
      bad = subst (λ a. IfBad c.put_on-answer.result (λ reason. IfSome link.traffic (λ t. IsBadReply method.Put a 0 t reason))) text c.put_on-answer.ensures.bad;
    } in
    calls (Unit {0}) method.Put ask 0 old mid new link.traffic _ link.faults c.put_on-answer.result c.close.result e
