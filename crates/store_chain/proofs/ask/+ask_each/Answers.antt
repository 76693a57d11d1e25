use Rattle.std.proofs.Common.{◌≡◌, refl}
use Rattle.chunk_store.specs.Asks.{Get}
use Rattle.store_chain.proofs.Turns.{given_first, given_later, refused_on}
use Rattle.store_chain.proofs.Kept.{map_on, once_on, none_more, kept_still, kept_next}
use Rattle.store_chain.proofs.ask.+ask_each.Goals as goal

pub returns-in-Ok-clause-found : goal.returns-in-Ok-clause-found
returns-in-Ok-clause-found g t c =
    given_first g.S.Store.said g.S.Store.faults g.S.Store.may_lack_memory c.args.query.now _ c.in-Some.first.now c.ask.new.store c.in-Some.rest.now c.args.stores.now c.in-Some.ensures.cases.0 c.in-Ok.ensures.ok.1

pub returns-in-Ok-clause-kept : goal.returns-in-Ok-clause-kept
returns-in-Ok-clause-kept g t c =
    kept_next g.S.Store (λ a. a ≡ Get c.args.query.now.id.0) c.in-Some.first.now c.ask.new.store c.in-Some.rest.now c.in-Some.rest.now c.args.stores.now c.in-Some.ensures.cases.0 c.ask.ensures.kept c.ask.ensures.members c.ask.ensures.files c.ask.ensures.folders c.ask.ensures.place c.ask.ensures.said c.ask.ensures.sends c.ask.ensures.faults (kept_still g.S.Store (λ a. a ≡ Get c.args.query.now.id.0) c.in-Some.rest.now)

pub returns-in-Ok-clause-asks : goal.returns-in-Ok-clause-asks
returns-in-Ok-clause-asks g t c = once_on g.S.Store.asked c.args.query.now.id.0 c.in-Some.first.now c.ask.new.store c.in-Some.rest.now c.in-Some.rest.now c.args.stores.now c.in-Some.ensures.cases.0 c.ask.ensures.asks (none_more g.S.Store.asked c.args.query.now.id.0 c.in-Some.rest.now)

pub returns-in-Ok-clause-queries : goal.returns-in-Ok-clause-queries
returns-in-Ok-clause-queries g t c = map_on g.S.Store.queried c.in-Some.first.now c.ask.new.store c.in-Some.rest.now c.in-Some.rest.now c.args.stores.now c.in-Some.ensures.cases.0 c.ask.ensures.queries refl

pub returns-in-Ok-ask_each-clause-found : goal.returns-in-Ok-ask_each-clause-found
returns-in-Ok-ask_each-clause-found g t c =
    given_later g.S.Store.said g.S.Store.faults g.S.Store.may_lack_memory c.args.query.now _ c.args.number c.in-Some.first.now c.ask.new.store c.in-Some.rest.now c.ask_each.new.stores c.args.stores.now c.in-Err.why c.in-Some.ensures.cases.0 c.in-Err.ensures.err c.in-Ok-ask_each.ensures.found

pub returns-in-Err-ask_each-clause-err : goal.returns-in-Err-ask_each-clause-err
returns-in-Err-ask_each-clause-err g t c =
    refused_on g.S.Store.said g.S.Store.faults g.S.Store.may_lack_memory c.args.query.now c.args.number c.in-Some.first.now c.ask.new.store c.in-Some.rest.now c.ask_each.new.stores c.args.stores.now c.in-Err.why c.in-Err-ask_each.then c.or.result c.in-Some.ensures.cases.0 c.or.ensures c.in-Err.ensures.err c.in-Err-ask_each.ensures.err

pub returns-in-Ok-ask_each-clause-kept : goal.returns-in-Ok-ask_each-clause-kept
returns-in-Ok-ask_each-clause-kept g t c =
    kept_next g.S.Store (λ a. a ≡ Get c.args.query.now.id.0) c.in-Some.first.now c.ask.new.store c.in-Some.rest.now c.ask_each.new.stores c.args.stores.now c.in-Some.ensures.cases.0 c.ask.ensures.kept c.ask.ensures.members c.ask.ensures.files c.ask.ensures.folders c.ask.ensures.place c.ask.ensures.said c.ask.ensures.sends c.ask.ensures.faults c.ask_each.ensures.kept

pub returns-in-Ok-ask_each-clause-asks : goal.returns-in-Ok-ask_each-clause-asks
returns-in-Ok-ask_each-clause-asks g t c = once_on g.S.Store.asked c.args.query.now.id.0 c.in-Some.first.now c.ask.new.store c.in-Some.rest.now c.ask_each.new.stores c.args.stores.now c.in-Some.ensures.cases.0 c.ask.ensures.asks c.ask_each.ensures.asks

pub returns-in-Ok-ask_each-clause-queries : goal.returns-in-Ok-ask_each-clause-queries
returns-in-Ok-ask_each-clause-queries g t c = map_on g.S.Store.queried c.in-Some.first.now c.ask.new.store c.in-Some.rest.now c.ask_each.new.stores c.args.stores.now c.in-Some.ensures.cases.0 c.ask.ensures.queries c.ask_each.ensures.queries

pub returns-in-Err-ask_each-clause-kept : goal.returns-in-Err-ask_each-clause-kept
returns-in-Err-ask_each-clause-kept g t c =
    kept_next g.S.Store (λ a. a ≡ Get c.args.query.now.id.0) c.in-Some.first.now c.ask.new.store c.in-Some.rest.now c.ask_each.new.stores c.args.stores.now c.in-Some.ensures.cases.0 c.ask.ensures.kept c.ask.ensures.members c.ask.ensures.files c.ask.ensures.folders c.ask.ensures.place c.ask.ensures.said c.ask.ensures.sends c.ask.ensures.faults c.ask_each.ensures.kept

pub returns-in-Err-ask_each-clause-asks : goal.returns-in-Err-ask_each-clause-asks
returns-in-Err-ask_each-clause-asks g t c = once_on g.S.Store.asked c.args.query.now.id.0 c.in-Some.first.now c.ask.new.store c.in-Some.rest.now c.ask_each.new.stores c.args.stores.now c.in-Some.ensures.cases.0 c.ask.ensures.asks c.ask_each.ensures.asks

pub returns-in-Err-ask_each-clause-queries : goal.returns-in-Err-ask_each-clause-queries
returns-in-Err-ask_each-clause-queries g t c = map_on g.S.Store.queried c.in-Some.first.now c.ask.new.store c.in-Some.rest.now c.ask_each.new.stores c.args.stores.now c.in-Some.ensures.cases.0 c.ask.ensures.queries c.ask_each.ensures.queries
