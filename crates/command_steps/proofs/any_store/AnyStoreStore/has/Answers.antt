use Rattle.std.proofs.Common.{◌≡◌, subst, sym}
use Rattle.chunk_store.specs.Asks.{Has, Sends}
use Rattle.command_steps.specs.AnyStores.{asked_in, source_sent}
use Rattle.http_read.specs.Asks.{sent_on, times_asked}
use Rattle.http_wire.specs.declared.reply.Method.TheVariants as methods
use Rattle.command_steps.proofs.any_store.AnyStoreStore.has.Goals as goal

pub returns-in-Http-clause-asks : goal.returns-in-Http-clause-asks
returns-in-Http-clause-asks g c =
    let state = g.D.Dial.state in
    let new = c.has-in-Http.new.self in
    subst (λ s. times_asked new.server methods.Get (state new.dial).ended ≡ asked_in methods.Get state s) (sym c.in-Http.is) c.has-in-Http.ensures.asks

pub returns-in-Http-clause-sends : goal.returns-in-Http-clause-sends
returns-in-Http-clause-sends g c =
    let ask = Has c.args.id.now.0 in
    let state = g.D.Dial.state in
    let new = c.has-in-Http.new.self in
    subst (λ s. Sends (λ a. a ≡ ask) (source_sent state s) (sent_on new.server (state new.dial).ended)) (sym c.in-Http.is) c.has-in-Http.ensures.sends
