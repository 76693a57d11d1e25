use Rattle.std.proofs.Common.{◌≡◌, refl}
use Rattle.chunk_store.specs.Asks.{Has}
use Rattle.store_chain.proofs.Had.{found_first, found_in_rest, found_after, fails_in_rest, fails_after}
use Rattle.store_chain.proofs.Kept.{map_on, once_on, none_more, kept_still, kept_next}
use Rattle.store_chain.proofs.has.+has_each.Goals as goal

pub returns-in-Ok-true-clause-found : goal.returns-in-Ok-true-clause-found
returns-in-Ok-true-clause-found g t c =
    found_first g.S.Store.holds c.args.id.now.0 c.in-Some.first.now c.in-Some.rest.now c.args.stores.now c.in-Some.ensures.cases.0 c.in-Ok-true.field-0 c.in-Ok-true.field-0-test c.in-Ok-true.ensures.found

pub returns-in-Ok-true-clause-kept : goal.returns-in-Ok-true-clause-kept
returns-in-Ok-true-clause-kept g t c =
    kept_next g.S.Store (λ a. a ≡ Has c.args.id.now.0) c.in-Some.first.now c.has_one.new.store c.in-Some.rest.now c.in-Some.rest.now c.args.stores.now c.in-Some.ensures.cases.0 c.has_one.ensures.kept c.has_one.ensures.members c.has_one.ensures.files c.has_one.ensures.folders c.has_one.ensures.place c.has_one.ensures.said c.has_one.ensures.sends c.has_one.ensures.faults (kept_still g.S.Store (λ a. a ≡ Has c.args.id.now.0) c.in-Some.rest.now)

pub returns-in-Ok-true-clause-asks : goal.returns-in-Ok-true-clause-asks
returns-in-Ok-true-clause-asks g t c = map_on g.S.Store.asked c.in-Some.first.now c.has_one.new.store c.in-Some.rest.now c.in-Some.rest.now c.args.stores.now c.in-Some.ensures.cases.0 c.has_one.ensures.asks refl

pub returns-in-Ok-true-clause-queries : goal.returns-in-Ok-true-clause-queries
returns-in-Ok-true-clause-queries g t c = once_on g.S.Store.queried c.args.id.now.0 c.in-Some.first.now c.has_one.new.store c.in-Some.rest.now c.in-Some.rest.now c.args.stores.now c.in-Some.ensures.cases.0 c.has_one.ensures.queries (none_more g.S.Store.queried c.args.id.now.0 c.in-Some.rest.now)

pub returns-in-Ok-false-clause-found : goal.returns-in-Ok-false-clause-found
returns-in-Ok-false-clause-found g t c =
    found_in_rest g.S.Store.holds c.args.id.now.0 c.in-Some.first.now c.in-Some.rest.now c.args.stores.now c.in-Some.ensures.cases.0 c.in-Ok-false.field-0 c.has_each.result c.in-Ok-false.field-0-test c.in-Ok-false.ensures.found c.has_each.ensures.found

pub returns-in-Ok-false-clause-err : goal.returns-in-Ok-false-clause-err
returns-in-Ok-false-clause-err g t c =
    fails_in_rest g.S.Store.said g.S.Store.faults c.args.id.now.0 g.S.Store.may_lack_memory c.args.number c.in-Some.first.now c.has_one.new.store c.in-Some.rest.now c.has_each.new.stores c.args.stores.now c.in-Some.ensures.cases.0 c.has_each.result
    (c.has_one.ensures.absent (let is = c.in-Ok-false.is in let test = c.in-Ok-false.field-0-test in cc)) c.has_each.ensures.err

pub returns-in-Err-clause-found : goal.returns-in-Err-clause-found
returns-in-Err-clause-found g t c =
    found_after g.S.Store.holds c.args.id.now.0 c.in-Some.first.now c.in-Some.rest.now c.args.stores.now c.in-Some.ensures.cases.0 c.in-Err.fault c.has_each-then.result c.before-in-Err.result c.before-in-Err.ensures c.has_each-then.ensures.found

pub returns-in-Err-clause-err : goal.returns-in-Err-clause-err
returns-in-Err-clause-err g t c =
    fails_after g.S.Store.said g.S.Store.faults c.args.id.now.0 g.S.Store.may_lack_memory c.args.number c.in-Some.first.now c.has_one.new.store c.in-Some.rest.now c.has_each-then.new.stores c.args.stores.now c.in-Some.ensures.cases.0 c.in-Err.fault c.has_each-then.result c.before-in-Err.result c.before-in-Err.ensures c.in-Err.ensures.err c.has_each-then.ensures.absent c.has_each-then.ensures.err

pub returns-in-Ok-false-clause-kept : goal.returns-in-Ok-false-clause-kept
returns-in-Ok-false-clause-kept g t c =
    kept_next g.S.Store (λ a. a ≡ Has c.args.id.now.0) c.in-Some.first.now c.has_one.new.store c.in-Some.rest.now c.has_each.new.stores c.args.stores.now c.in-Some.ensures.cases.0 c.has_one.ensures.kept c.has_one.ensures.members c.has_one.ensures.files c.has_one.ensures.folders c.has_one.ensures.place c.has_one.ensures.said c.has_one.ensures.sends c.has_one.ensures.faults c.has_each.ensures.kept

pub returns-in-Ok-false-clause-asks : goal.returns-in-Ok-false-clause-asks
returns-in-Ok-false-clause-asks g t c = map_on g.S.Store.asked c.in-Some.first.now c.has_one.new.store c.in-Some.rest.now c.has_each.new.stores c.args.stores.now c.in-Some.ensures.cases.0 c.has_one.ensures.asks c.has_each.ensures.asks

pub returns-in-Ok-false-clause-queries : goal.returns-in-Ok-false-clause-queries
returns-in-Ok-false-clause-queries g t c = once_on g.S.Store.queried c.args.id.now.0 c.in-Some.first.now c.has_one.new.store c.in-Some.rest.now c.has_each.new.stores c.args.stores.now c.in-Some.ensures.cases.0 c.has_one.ensures.queries c.has_each.ensures.queries

pub returns-in-Err-clause-kept : goal.returns-in-Err-clause-kept
returns-in-Err-clause-kept g t c =
    kept_next g.S.Store (λ a. a ≡ Has c.args.id.now.0) c.in-Some.first.now c.has_one.new.store c.in-Some.rest.now c.has_each-then.new.stores c.args.stores.now c.in-Some.ensures.cases.0 c.has_one.ensures.kept c.has_one.ensures.members c.has_one.ensures.files c.has_one.ensures.folders c.has_one.ensures.place c.has_one.ensures.said c.has_one.ensures.sends c.has_one.ensures.faults c.has_each-then.ensures.kept

pub returns-in-Err-clause-asks : goal.returns-in-Err-clause-asks
returns-in-Err-clause-asks g t c = map_on g.S.Store.asked c.in-Some.first.now c.has_one.new.store c.in-Some.rest.now c.has_each-then.new.stores c.args.stores.now c.in-Some.ensures.cases.0 c.has_one.ensures.asks c.has_each-then.ensures.asks

pub returns-in-Err-clause-queries : goal.returns-in-Err-clause-queries
returns-in-Err-clause-queries g t c = once_on g.S.Store.queried c.args.id.now.0 c.in-Some.first.now c.has_one.new.store c.in-Some.rest.now c.has_each-then.new.stores c.args.stores.now c.in-Some.ensures.cases.0 c.has_one.ensures.queries c.has_each-then.ensures.queries
