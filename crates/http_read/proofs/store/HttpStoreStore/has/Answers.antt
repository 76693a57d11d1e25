use Rattle.std.proofs.Common.{sym, subst}
use Rattle.chunk_store.specs.Asks.{Has, Sends}
use Rattle.chunk_store.specs.Said.{KeepsOf}
use Rattle.http_read.proofs.Ended.{said_kept}
use Rattle.http_read.specs.Remotes.{said_on}
use Rattle.http_read.proofs.store.HttpStoreStore.has.Goals as goal
use Rattle.std.specs.Prelude.{◌≡◌, []}
use Rattle.chunk_store.specs.Said.{AskedOnce}
use Rattle.http_read.proofs.Asked.{asked_once, asked_none}
use Rattle.http_read.proofs.Sending.{sends_one}
use Rattle.http_read.specs.Asks.{sent_on, times_asked}
use Rattle.http_wire.specs.declared.reply.Method.TheVariants as method

pub returns-clause-said : goal.returns-clause-said
returns-clause-said g c = λ q.
    let old = said_on c.args.self.now.server (g.D.Dial.state c.args.self.now.dial).ended in
    subst (λ s. KeepsOf old (said_on s (g.D.Dial.state c.find.new.self.dial).ended) q) (sym c.find.ensures.server)
    (said_kept _ c.args.self.now.server _ _ q c.find.ensures.calls.ended)

pub returns-clause-queries : goal.returns-clause-queries
returns-clause-queries g c =
    let old = times_asked c.args.self.now.server method.Head (g.D.Dial.state c.args.self.now.dial).ended in
    subst (λ s. AskedOnce old (times_asked s method.Head (g.D.Dial.state c.find.new.self.dial).ended) c.args.id.now.0) (sym c.find.ensures.server)
    (asked_once c.args.self.now.server method.Head c.args.id.now.0 [] c.id_has_32_bytes.ensures.size _ _ c.find.ensures.calls.ended)

pub returns-clause-asks : goal.returns-clause-asks
returns-clause-asks g c =
    let old = times_asked c.args.self.now.server method.Get (g.D.Dial.state c.args.self.now.dial).ended in
    subst (λ s. times_asked s method.Get (g.D.Dial.state c.find.new.self.dial).ended ≡ old) (sym c.find.ensures.server)
    (asked_none c.args.self.now.server method.Head c.args.id.now.0 [] c.id_has_32_bytes.ensures.size method.Get (λ same. absurd (cc)) _ _ c.find.ensures.calls.ended)

pub returns-clause-sends : goal.returns-clause-sends
returns-clause-sends g c =
    let ask = Has c.args.id.now.0 in
    let old = sent_on c.args.self.now.server (g.D.Dial.state c.args.self.now.dial).ended in
    subst (λ s. Sends (λ a. a ≡ ask) old (sent_on s (g.D.Dial.state c.find.new.self.dial).ended)) (sym c.find.ensures.server)
    (sends_one c.args.self.now.server ask _ _ c.find.ensures.calls.ended)
