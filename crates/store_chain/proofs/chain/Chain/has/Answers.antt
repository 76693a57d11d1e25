use Rattle.std.proofs.Common.{◌≡◌, length, ap, ◌∙◌, sym, arith}
use Rattle.chunk_store.specs.Asks.{Has}
use Rattle.store_chain.specs.Chains.{Chained}
use Rattle.store_chain.proofs.Chained.{kept_in, once_in, written_back}
use Rattle.store_chain.proofs.Had.{has_cause_in, has_fails_in}
use Rattle.store_chain.proofs.chain.Chain.has.Goals as goal

pub returns-clause-first : goal.returns-clause-first
returns-clause-first g c =
    let size : length c.has_each.new.stores ≡ c.self.inside.stores.len = omega (arith, c.has_each.auto.stores, c.as_mut_slice.ensures.len) in
    let new = written_back c.has_each.new.stores c.self.inside.stores.items c.self.inside.stores.len size in
    let old : c.as_mut_slice.result.now ≡ c.args.self.now.stores = c.as_mut_slice.ensures.value ∙ ap (λ (v : Chained g.row.S.Denot). v.stores) c.self.view_is in
    has_fails_in g.S.Store.said g.S.Store.faults c.args.id.now.0 g.S.Store.may_lack_memory c.as_mut_slice.result.now c.args.self.now.stores c.has_each.new.stores _ old (sym new) c.has_each.result c.has_each.ensures.err

pub returns-clause-cause : goal.returns-clause-cause
returns-clause-cause g c = λ s is.
    let size : length c.has_each.new.stores ≡ c.self.inside.stores.len = omega (arith, c.has_each.auto.stores, c.as_mut_slice.ensures.len) in
    let new = written_back c.has_each.new.stores c.self.inside.stores.items c.self.inside.stores.len size in
    let old : c.as_mut_slice.result.now ≡ c.args.self.now.stores = c.as_mut_slice.ensures.value ∙ ap (λ (v : Chained g.row.S.Denot). v.stores) c.self.view_is in
    has_cause_in g.S.Store.said g.S.Store.faults c.args.id.now.0 g.S.Store.may_lack_memory c.as_mut_slice.result.now c.args.self.now.stores c.has_each.new.stores _ old (sym new) c.has_each.result s c.has_each.ensures.err is

pub returns-clause-kept : goal.returns-clause-kept
returns-clause-kept g c =
    let size : length c.has_each.new.stores ≡ c.self.inside.stores.len = omega (arith, c.has_each.auto.stores, c.as_mut_slice.ensures.len) in
    let new = written_back c.has_each.new.stores c.self.inside.stores.items c.self.inside.stores.len size in
    let old : c.as_mut_slice.result.now ≡ c.args.self.now.stores = c.as_mut_slice.ensures.value ∙ ap (λ (v : Chained g.row.S.Denot). v.stores) c.self.view_is in
    kept_in c.as_mut_slice.result.now c.args.self.now.stores c.has_each.new.stores _ old (sym new) g.S.Store (λ a. a ≡ Has c.args.id.now.0) (λ a. a ≡ Has c.args.id.now.0) (λ a same. same) c.has_each.ensures.kept

pub returns-clause-queries : goal.returns-clause-queries
returns-clause-queries g c =
    let size : length c.has_each.new.stores ≡ c.self.inside.stores.len = omega (arith, c.has_each.auto.stores, c.as_mut_slice.ensures.len) in
    let new = written_back c.has_each.new.stores c.self.inside.stores.items c.self.inside.stores.len size in
    let old : c.as_mut_slice.result.now ≡ c.args.self.now.stores = c.as_mut_slice.ensures.value ∙ ap (λ (v : Chained g.row.S.Denot). v.stores) c.self.view_is in
    once_in c.as_mut_slice.result.now c.args.self.now.stores c.has_each.new.stores _ old (sym new) g.S.Store.queried c.args.id.now.0 c.has_each.ensures.queries
