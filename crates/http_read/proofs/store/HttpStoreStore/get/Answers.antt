use Rattle.std.proofs.Common.{ℕ, length, take, refl, sym, subst}
use Rattle.std.specs.List.{Any}
use Rattle.std.specs.Prelude.{IfSome}
use Rattle.chunk_store.specs.Asks.{Get, Sends}
use Rattle.chunk_store.specs.Said.{KeepsOf}
use Rattle.chunk_store.specs.declared.store.GetFault.{GetFault}
use Rattle.http_read.proofs.Ended.{said_kept, said_of_added}
use Rattle.http_read.proofs.Streams.{ok_weaker}
use Rattle.http_read.specs.Remotes.{said_on}
use Rattle.http_read.specs.Replies.{IsDenial, IsLonger, IsShowing}
use Rattle.http_read.proofs.store.HttpStoreStore.get.Goals as goal
use Rattle.std.specs.Prelude.{◌≡◌, []}
use Rattle.chunk_store.specs.Said.{AskedOnce}
use Rattle.http_read.proofs.Asked.{asked_once, asked_none}
use Rattle.http_read.proofs.Sending.{sends_one}
use Rattle.http_read.specs.Asks.{sent_on, times_asked}
use Rattle.http_wire.specs.declared.reply.Method.TheVariants as method

pub returns-clause-ok : goal.returns-clause-ok
returns-clause-ok g c =
    let ended = (g.D.Dial.state c.fetch.new.self.dial).ended in
    ok_weaker ℕ GetFault _ _ c.fetch.result (λ n p. (
      p.0,
      subst (λ s. IfSome ended (Any (IsShowing s c.args.id.now.0 (take n c.fetch.new.out)))) (sym c.fetch.ensures.server)
          (said_of_added _ _ ended p.1),
    )) c.fetch.ensures.ok

pub returns-clause-absent : goal.returns-clause-absent
returns-clause-absent g c = λ is.
    let ended = (g.D.Dial.state c.fetch.new.self.dial).ended in
    subst (λ s. IfSome ended (Any (IsDenial s c.args.id.now.0))) (sym c.fetch.ensures.server)
    (said_of_added _ _ ended (c.fetch.ensures.absent is))

pub returns-clause-longer : goal.returns-clause-longer
returns-clause-longer g c = λ is.
    let ended = (g.D.Dial.state c.fetch.new.self.dial).ended in
    subst (λ s. IfSome ended (Any (IsLonger s c.args.id.now.0 (length c.fetch.new.out)))) (sym c.fetch.ensures.server)
    (said_of_added _ _ ended (c.fetch.ensures.longer is))

pub returns-clause-shown_by : goal.returns-clause-shown_by
returns-clause-shown_by g c =
    let ended = (g.D.Dial.state c.fetch.new.self.dial).ended in
    ok_weaker ℕ GetFault _ _ c.fetch.result (λ n p. (
      refl,
      subst (λ s. IfSome ended (Any (IsShowing s c.args.id.now.0 (take n c.fetch.new.out)))) (sym c.fetch.ensures.server)
          (said_of_added _ _ ended p.1),
    )) c.fetch.ensures.ok

pub returns-clause-longer_by : goal.returns-clause-longer_by
returns-clause-longer_by g c = λ is.
    let ended = (g.D.Dial.state c.fetch.new.self.dial).ended in (
      refl,
      subst (λ s. IfSome ended (Any (IsLonger s c.args.id.now.0 (length c.fetch.new.out)))) (sym c.fetch.ensures.server)
          (said_of_added _ _ ended (c.fetch.ensures.longer is)),
    )

pub returns-clause-said : goal.returns-clause-said
returns-clause-said g c = λ q.
    let old = said_on c.args.self.now.server (g.D.Dial.state c.args.self.now.dial).ended in
    subst (λ s. KeepsOf old (said_on s (g.D.Dial.state c.fetch.new.self.dial).ended) q) (sym c.fetch.ensures.server)
    (said_kept _ c.args.self.now.server _ _ q c.fetch.ensures.calls.ended)

pub returns-clause-asks : goal.returns-clause-asks
returns-clause-asks g c =
    let old = times_asked c.args.self.now.server method.Get (g.D.Dial.state c.args.self.now.dial).ended in
    subst (λ s. AskedOnce old (times_asked s method.Get (g.D.Dial.state c.fetch.new.self.dial).ended) c.args.id.now.0) (sym c.fetch.ensures.server)
    (asked_once c.args.self.now.server method.Get c.args.id.now.0 [] c.id_has_32_bytes.ensures.size _ _ c.fetch.ensures.calls.ended)

pub returns-clause-queries : goal.returns-clause-queries
returns-clause-queries g c =
    let old = times_asked c.args.self.now.server method.Head (g.D.Dial.state c.args.self.now.dial).ended in
    subst (λ s. times_asked s method.Head (g.D.Dial.state c.fetch.new.self.dial).ended ≡ old) (sym c.fetch.ensures.server)
    (asked_none c.args.self.now.server method.Get c.args.id.now.0 [] c.id_has_32_bytes.ensures.size method.Head (λ same. absurd (cc)) _ _ c.fetch.ensures.calls.ended)

pub returns-clause-sends : goal.returns-clause-sends
returns-clause-sends g c =
    let ask = Get c.args.id.now.0 in
    let old = sent_on c.args.self.now.server (g.D.Dial.state c.args.self.now.dial).ended in
    subst (λ s. Sends (λ a. a ≡ ask) old (sent_on s (g.D.Dial.state c.fetch.new.self.dial).ended)) (sym c.fetch.ensures.server)
    (sends_one c.args.self.now.server ask _ _ c.fetch.ensures.calls.ended)
