use Rattle.std.proofs.Common.{◌≡◌, ℕ, List, length, ap, subst, ◌∙◌, sym, refl, arith}
use Rattle.chunk_store.specs.Asks.{Get}
use Rattle.dsy_base.specs.Counts.{raised}
use Rattle.store_chain.specs.Queries.{query_of}
use Rattle.store_chain.specs.Chains.{Chained, EachOnce}
use Rattle.store_chain.specs.declared.query.Query.{Query}
use Rattle.store_chain.proofs.Chained.{found_in, had_in, absent_in, cause_in, first_in, exactly_in, kept_in, lacks_in, once_in, same_in, written_back}
use Rattle.store_chain.proofs.chain.Chain.obtain.Goals as goal

pub returns-clause-found : goal.returns-clause-found
returns-clause-found g c =
    let size : length c.ask_each.new.stores ≡ c.self.inside.stores.len = omega (arith, c.ask_each.auto.stores, c.as_mut_slice.ensures.len) in
    let new = written_back c.ask_each.new.stores c.self.inside.stores.items c.self.inside.stores.len size in
    let old : c.as_mut_slice.result.now ≡ c.args.self.now.stores = c.as_mut_slice.ensures.value ∙ ap (λ (v : Chained g.row.S.Denot). v.stores) c.self.view_is in
    let want : c.of-query.result ≡ query_of c.args.self.now.kind c.args.id.now c.args.size (length c.args.out.now) =
    c.of-query.ensures ∙ ap (λ (v : Chained g.row.S.Denot). query_of v.kind c.args.id.now c.args.size (length c.args.out.now)) c.self.view_is in
    found_in g.S.Store.said g.S.Store.faults g.S.Store.may_lack_memory c.of-query.result _ want c.as_mut_slice.result.now c.args.self.now.stores c.ask_each.new.stores _ old (sym new)
    c.ask_each.result c.ask_each.new.out c.split_at_mut-lent.result.1.now c.ask_each.ensures.ok c.ask_each.ensures.found

pub returns-clause-had : goal.returns-clause-had
returns-clause-had g c =
    let size : length c.ask_each.new.stores ≡ c.self.inside.stores.len = omega (arith, c.ask_each.auto.stores, c.as_mut_slice.ensures.len) in
    let new = written_back c.ask_each.new.stores c.self.inside.stores.items c.self.inside.stores.len size in
    let old : c.as_mut_slice.result.now ≡ c.args.self.now.stores = c.as_mut_slice.ensures.value ∙ ap (λ (v : Chained g.row.S.Denot). v.stores) c.self.view_is in
    let want : c.of-query.result ≡ query_of c.args.self.now.kind c.args.id.now c.args.size (length c.args.out.now) =
    c.of-query.ensures ∙ ap (λ (v : Chained g.row.S.Denot). query_of v.kind c.args.id.now c.args.size (length c.args.out.now)) c.self.view_is in
    had_in g.S.Store.said g.S.Store.faults g.S.Store.may_lack_memory c.of-query.result _ want c.as_mut_slice.result.now c.args.self.now.stores c.ask_each.new.stores _ old (sym new)
    g.S.Store.members g.met.S.Store.vouched c.ask_each.ensures.kept.members c.ask_each.result c.ask_each.new.out c.split_at_mut-lent.result.1.now c.ask_each.ensures.ok c.ask_each.ensures.found

pub returns-clause-lacks : goal.returns-clause-lacks
returns-clause-lacks g c =
    let old : c.as_mut_slice.result.now ≡ c.args.self.now.stores = c.as_mut_slice.ensures.value ∙ ap (λ (v : Chained g.row.S.Denot). v.stores) c.self.view_is in
    let want : c.of-query.result ≡ query_of c.args.self.now.kind c.args.id.now c.args.size (length c.args.out.now) =
    c.of-query.ensures ∙ ap (λ (v : Chained g.row.S.Denot). query_of v.kind c.args.id.now c.args.size (length c.args.out.now)) c.self.view_is in
    lacks_in g.S.Store.said g.S.Store.faults g.S.Store.may_lack_memory c.of-query.result _ want c.as_mut_slice.result.now c.args.self.now.stores c.ask_each.new.stores c.ask_each.new.stores old refl
    g.S.Store.members g.met.S.Store.vouched c.ask_each.ensures.kept.members c.ask_each.result c.ask_each.ensures.err

pub returns-clause-absent : goal.returns-clause-absent
returns-clause-absent g c =
    let size : length c.ask_each.new.stores ≡ c.self.inside.stores.len = omega (arith, c.ask_each.auto.stores, c.as_mut_slice.ensures.len) in
    let new = written_back c.ask_each.new.stores c.self.inside.stores.items c.self.inside.stores.len size in
    let old : c.as_mut_slice.result.now ≡ c.args.self.now.stores = c.as_mut_slice.ensures.value ∙ ap (λ (v : Chained g.row.S.Denot). v.stores) c.self.view_is in
    let want : c.of-query.result ≡ query_of c.args.self.now.kind c.args.id.now c.args.size (length c.args.out.now) =
    c.of-query.ensures ∙ ap (λ (v : Chained g.row.S.Denot). query_of v.kind c.args.id.now c.args.size (length c.args.out.now)) c.self.view_is in
    absent_in g.S.Store.said g.S.Store.faults g.S.Store.may_lack_memory c.of-query.result _ want c.as_mut_slice.result.now c.args.self.now.stores c.ask_each.new.stores _ old (sym new) c.ask_each.result c.ask_each.ensures.err

pub returns-clause-first : goal.returns-clause-first
returns-clause-first g c = λ maps told.
    let old : c.as_mut_slice.result.now ≡ c.args.self.now.stores = c.as_mut_slice.ensures.value ∙ ap (λ (v : Chained g.row.S.Denot). v.stores) c.self.view_is in
    let want : c.of-query.result ≡ query_of c.args.self.now.kind c.args.id.now c.args.size (length c.args.out.now) =
    c.of-query.ensures ∙ ap (λ (v : Chained g.row.S.Denot). query_of v.kind c.args.id.now c.args.size (length c.args.out.now)) c.self.view_is in
    first_in g.S.Store.said g.S.Store.faults g.S.Store.may_lack_memory c.of-query.result _ want c.as_mut_slice.result.now c.args.self.now.stores c.ask_each.new.stores c.ask_each.new.stores old refl
    g.S.Store.holds g.met.S.Store.says c.ask_each.ensures.kept.held maps told c.ask_each.result c.ask_each.ensures.err

pub returns-clause-exactly : goal.returns-clause-exactly
returns-clause-exactly g c = λ maps told quiet.
    let size : length c.ask_each.new.stores ≡ c.self.inside.stores.len = omega (arith, c.ask_each.auto.stores, c.as_mut_slice.ensures.len) in
    let new = written_back c.ask_each.new.stores c.self.inside.stores.items c.self.inside.stores.len size in
    let old : c.as_mut_slice.result.now ≡ c.args.self.now.stores = c.as_mut_slice.ensures.value ∙ ap (λ (v : Chained g.row.S.Denot). v.stores) c.self.view_is in
    let want : c.of-query.result ≡ query_of c.args.self.now.kind c.args.id.now c.args.size (length c.args.out.now) =
    c.of-query.ensures ∙ ap (λ (v : Chained g.row.S.Denot). query_of v.kind c.args.id.now c.args.size (length c.args.out.now)) c.self.view_is in
    exactly_in g.S.Store.said g.S.Store.faults g.S.Store.may_lack_memory c.of-query.result _ want c.as_mut_slice.result.now c.args.self.now.stores c.ask_each.new.stores _ old (sym new)
    g.S.Store.holds g.met.S.Store.says c.ask_each.ensures.kept.held maps told c.ask_each.result c.ask_each.new.out c.split_at_mut-lent.result.1.now quiet
    c.ask_each.ensures.ok c.ask_each.ensures.found c.ask_each.ensures.err

pub returns-clause-cause : goal.returns-clause-cause
returns-clause-cause g c = λ s is.
    let size : length c.ask_each.new.stores ≡ c.self.inside.stores.len = omega (arith, c.ask_each.auto.stores, c.as_mut_slice.ensures.len) in
    let new = written_back c.ask_each.new.stores c.self.inside.stores.items c.self.inside.stores.len size in
    let old : c.as_mut_slice.result.now ≡ c.args.self.now.stores = c.as_mut_slice.ensures.value ∙ ap (λ (v : Chained g.row.S.Denot). v.stores) c.self.view_is in
    cause_in g.S.Store.said g.S.Store.faults g.S.Store.may_lack_memory c.of-query.result c.of-query.result refl c.as_mut_slice.result.now c.args.self.now.stores c.ask_each.new.stores _ old (sym new) c.ask_each.result s c.ask_each.ensures.err is

pub returns-clause-kept : goal.returns-clause-kept
returns-clause-kept g c =
    let size : length c.ask_each.new.stores ≡ c.self.inside.stores.len = omega (arith, c.ask_each.auto.stores, c.as_mut_slice.ensures.len) in
    let new = written_back c.ask_each.new.stores c.self.inside.stores.items c.self.inside.stores.len size in
    let old : c.as_mut_slice.result.now ≡ c.args.self.now.stores = c.as_mut_slice.ensures.value ∙ ap (λ (v : Chained g.row.S.Denot). v.stores) c.self.view_is in
    let asked : c.of-query.result.id.0 ≡ c.args.id.now.0 = ap (λ (w : Query). w.id.0) c.of-query.ensures in
    kept_in c.as_mut_slice.result.now c.args.self.now.stores c.ask_each.new.stores _ old (sym new) g.S.Store (λ a. a ≡ Get c.of-query.result.id.0) (λ a. a ≡ Get c.args.id.now.0) (λ a same. same ∙ ap Get asked) c.ask_each.ensures.kept

pub returns-clause-asks : goal.returns-clause-asks
returns-clause-asks g c =
    let size : length c.ask_each.new.stores ≡ c.self.inside.stores.len = omega (arith, c.ask_each.auto.stores, c.as_mut_slice.ensures.len) in
    let new = written_back c.ask_each.new.stores c.self.inside.stores.items c.self.inside.stores.len size in
    let old : c.as_mut_slice.result.now ≡ c.args.self.now.stores = c.as_mut_slice.ensures.value ∙ ap (λ (v : Chained g.row.S.Denot). v.stores) c.self.view_is in
    let asked : c.of-query.result.id.0 ≡ c.args.id.now.0 = ap (λ (w : Query). w.id.0) c.of-query.ensures in
    let P : List ℕ → Type 0 = λ q. EachOnce g.S.Store.asked q c.as_mut_slice.result.now c.ask_each.new.stores in
    let calls : c.self.inside.asks ≡ c.args.self.now.asks = ap (λ (v : Chained g.row.S.Denot). v.asks) c.self.view_is in
    record {
      stores = once_in c.as_mut_slice.result.now c.args.self.now.stores c.ask_each.new.stores _ old (sym new) g.S.Store.asked c.args.id.now.0 (subst P asked c.ask_each.ensures.asks);
      queries = same_in c.as_mut_slice.result.now c.args.self.now.stores c.ask_each.new.stores _ old (sym new) g.S.Store.queried c.ask_each.ensures.queries;
      calls = c.raise-self-inside.ensures.value ∙ ap (λ k. raised k 1) calls;
      below = omega arith;
      kind = ap (λ (v : Chained g.row.S.Denot). v.kind) c.self.view_is;
    }
