use Rattle.std.proofs.Common.{◌≡◌, subst, sym}
use Rattle.chunk_store.specs.Asks.{Put, Sends}
use Rattle.command_steps.specs.AnyStores.{asked_in, source_sent}
use Rattle.http_read.specs.Asks.{sent_on, times_asked}
use Rattle.http_wire.specs.declared.reply.Method.TheVariants as methods
use Rattle.command_steps.proofs.any_store.AnyStoreStoreWrite.put.Goals as goal

pub returns-in-Http-clause-asks : goal.returns-in-Http-clause-asks
returns-in-Http-clause-asks g c =
    let state = g.D.Dial.state in
    let new = c.put-in-Http.new.self in
    subst (λ s. times_asked new.server methods.Get (state new.dial).ended ≡ asked_in methods.Get state s) (sym c.in-Http.is) c.put-in-Http.ensures.asks

pub returns-in-Http-clause-queries : goal.returns-in-Http-clause-queries
returns-in-Http-clause-queries g c =
    let state = g.D.Dial.state in
    let new = c.put-in-Http.new.self in
    subst (λ s. times_asked new.server methods.Head (state new.dial).ended ≡ asked_in methods.Head state s) (sym c.in-Http.is) c.put-in-Http.ensures.queries

pub returns-in-Http-clause-sends : goal.returns-in-Http-clause-sends
returns-in-Http-clause-sends g c =
    let ask = Put c.args.id.now.0 c.args.b.now in
    let state = g.D.Dial.state in
    let new = c.put-in-Http.new.self in
    subst (λ s. Sends (λ a. a ≡ ask) (source_sent state s) (sent_on new.server (state new.dial).ended)) (sym c.in-Http.is) c.put-in-Http.ensures.sends
