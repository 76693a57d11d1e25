use Rattle.std.proofs.Common.{◌≡◌, ◌≢◌, IfErr, ℕ, List, length, map, take, Option, Some, None, Ok, Err, inr, sym, ap, ◌∙◌, subst, slice_index}
use Rattle.std.proofs.lemmas.Result.{err_from_is_err_and}
use Rattle.cache_store.specs.Shelves.{Shelf}
use Rattle.chunk_sources.proofs.Behind.{none_failed, none_given}
use Rattle.chunk_sources.proofs.Cached.{gives_right}
use Rattle.chunk_sources.proofs.Lacking.{quiet_never, lacked_memory}
use Rattle.chunk_sources.proofs.Obtained.{holds_gives}
use Rattle.chunk_sources.proofs.Origins.{answered_upstream, by_none, by_store}
use Rattle.chunk_sources.specs.Caches.{OthersAddOnly, CacheFailed, CacheLacks, IsAlone, cache_faults, cached_in, given_maps}
use Rattle.chunk_sources.specs.Economy.{source_behind}
use Rattle.chunk_sources.specs.AnyCaches.{seen_in}
use Rattle.chunk_store.specs.declared.id.DigestKind.{DigestKind}
use Rattle.dsy_base.specs.Counts.{Quiet}
use Rattle.range_survey.specs.declared.fate.Fate.TheVariants as fate
use Rattle.store_chain.specs.declared.refused.Refused.TheVariants as refused
use Rattle.chunk_sources.proofs.upstream.from_upstream.Given.{Over}
use Rattle.chunk_sources.proofs.upstream.from_upstream.Goals as goal

-- what is seen of a cache
abbrev see : (g : Over) → Option g.row.C.Denot → Option Shelf
see g = seen_in g.C.Cache

-- ---- no cache

pub returns-in_err-obtain-clause-exactly : goal.returns-in_err-obtain-clause-exactly
returns-in_err-obtain-clause-exactly g c = λ alone cached maps told quiet held agree still.
    let kind = c.args.chain.now.kind in
    let id = c.args.id.now in
    let size : ℕ = length c.args.chunk.now in
    let e = c.in_err-obtain.ensures in
    let r = c.in_err-obtain.field-0.0 in
    let stores = map g.S.Store.faults in
    let p = err_from_is_err_and c.from_residual.result c.from_residual.ensures.1 in
    rw (p.1, p.2) (by_none kind id.0 size cached maps c.args.chain.now c.obtain.new.self
    (none_given kind id.0 size cached (ap (λ q. cached_in (see g q)) (sym c.in_default.is) ∙ told)) e.asks.calls r
    (lacked_memory kind id size (map g.S.Store.members c.args.chain.now.stores) maps held agree r
    (λ s is. quiet_never (slice_index (stores c.args.chain.now.stores) s) (slice_index (stores c.obtain.new.self.stores) s) (still s) (e.cause s (ap Err is)))
    e.lacks))

pub returns-in_default-clause-had : goal.returns-in_default-clause-had
returns-in_default-clause-had g c = λ cached maps told held.
    let kind = c.args.chain.now.kind in
    let id = c.args.id.now in
    let size : ℕ = length c.args.chunk.now in
    let e = c.in_ok-obtain.ensures in
    gives_right kind id.0 size cached maps
    (holds_gives kind id size maps (take c.in_ok-obtain.field-0 c.obtain.new.out) e.ok.wanted (e.had maps held))

pub returns-in_default-clause-exactly : goal.returns-in_default-clause-exactly
returns-in_default-clause-exactly g c = λ alone cached maps told quiet held agree still.
    let kind = c.args.chain.now.kind in
    let id = c.args.id.now in
    let size : ℕ = length c.args.chunk.now in
    let e = c.in_ok-obtain.ensures in
    by_store kind id.0 size cached maps c.args.chain.now c.obtain.new.self
    (none_given kind id.0 size cached (ap (λ q. cached_in (see g q)) (sym c.in_default.is) ∙ told)) e.asks.calls
    (holds_gives kind id size maps (take c.in_ok-obtain.field-0 c.obtain.new.out) e.ok.wanted (e.had maps held))

pub returns-in_err-obtain-clause-shared : goal.returns-in_err-obtain-clause-shared
returns-in_err-obtain-clause-shared g c = λ cached maps only told quiet held agree still.
    let kind = c.args.chain.now.kind in
    let id = c.args.id.now in
    let size : ℕ = length c.args.chunk.now in
    let e = c.in_err-obtain.ensures in
    let r = c.in_err-obtain.field-0.0 in
    let stores = map g.S.Store.faults in
    let p = err_from_is_err_and c.from_residual.result c.from_residual.ensures.1 in
    rw (p.1, p.2) ((by_none kind id.0 size cached maps c.args.chain.now c.obtain.new.self
    (none_given kind id.0 size cached (ap (λ q. cached_in (see g q)) (sym c.in_default.is) ∙ told)) e.asks.calls r
    (lacked_memory kind id size (map g.S.Store.members c.args.chain.now.stores) maps held agree r
    (λ s is. quiet_never (slice_index (stores c.args.chain.now.stores) s) (slice_index (stores c.obtain.new.self.stores) s) (still s) (e.cause s (ap Err is)))
    e.lacks)).1)

pub returns-in_default-clause-shared : goal.returns-in_default-clause-shared
returns-in_default-clause-shared g c = λ cached maps only told quiet held agree still.
    let kind = c.args.chain.now.kind in
    let id = c.args.id.now in
    let size : ℕ = length c.args.chunk.now in
    let e = c.in_ok-obtain.ensures in
    answered_upstream (source_behind kind id.0 size cached maps) (Ok fate.Fetched) (by_store kind id.0 size cached maps c.args.chain.now c.obtain.new.self
    (none_given kind id.0 size cached (ap (λ q. cached_in (see g q)) (sym c.in_default.is) ∙ told)) e.asks.calls
    (holds_gives kind id size maps (take c.in_ok-obtain.field-0 c.obtain.new.out) e.ok.wanted (e.had maps held))).1

-- without a cache none failed
none : (g : Over) (cache after : Option g.row.C.Denot) (kind : DigestKind) (id : List ℕ) (size : ℕ) → cache ≡ None → CacheFailed kind id size (see g cache) (see g after)
none g cache after kind id size is = subst (λ (q : Option g.row.C.Denot). CacheFailed kind id size (see g q) (see g after)) (sym is) (none_failed kind id size (see g after))

pub returns-in_err-obtain-clause-asks : goal.returns-in_err-obtain-clause-asks
returns-in_err-obtain-clause-asks g c = inr (c.in_err-obtain.ensures.asks, none g c.args.cache.now c.args.cache.now c.args.chain.now.kind c.args.id.now.0 (length c.args.chunk.now) c.in_default.is)

pub returns-in_err-obtain-clause-asked : goal.returns-in_err-obtain-clause-asked
returns-in_err-obtain-clause-asked g c =
    let p = err_from_is_err_and c.from_residual.result c.from_residual.ensures.1 in
    rw p.1 (λ isnt. (c.in_err-obtain.ensures.asks, none g c.args.cache.now c.args.cache.now c.args.chain.now.kind c.args.id.now.0 (length c.args.chunk.now) c.in_default.is))

pub returns-in_default-clause-asks : goal.returns-in_default-clause-asks
returns-in_default-clause-asks g c = inr (c.in_ok-obtain.ensures.asks, none g c.args.cache.now c.args.cache.now c.args.chain.now.kind c.args.id.now.0 (length c.args.chunk.now) c.in_default.is)

-- ---- a cache

pub returns-clause-had : goal.returns-clause-had
returns-clause-had g c = λ cached maps given told.
    c.from_cache.ensures.had cached maps (ap (λ q. given_maps (see g q)) (sym c.in-Some.is) ∙ given) told

pub returns-clause-missed : goal.returns-clause-missed
returns-clause-missed g c =
    subst (λ (q : Option g.row.C.Denot). IfErr c.from_cache.result (λ r. r ≢ refused.Memory → IsAlone (see g q)
    → CacheLacks c.args.chain.now.kind c.args.id.now.0 (length c.args.chunk.now) (see g q) (Some (g.C.Cache.shelf c.from_cache.new.cache)))) (sym c.in-Some.is) c.from_cache.ensures.missed

pub returns-clause-shared : goal.returns-clause-shared
returns-clause-shared g c = λ cached maps only told quiet held agree still.
    let kind = c.args.chain.now.kind in
    let size : ℕ = length c.args.chunk.now in
    c.from_cache.ensures.shared cached maps (subst (λ (q : Option g.row.C.Denot). OthersAddOnly kind c.args.id.now.0 size (see g q) cached maps) c.in-Some.is only)
    (ap (λ q. cached_in (see g q)) (sym c.in-Some.is) ∙ told)
    (subst (λ (q : Option g.row.C.Denot). Quiet (cache_faults (see g q)) (g.C.Cache.shelf c.from_cache.new.cache).faults) c.in-Some.is quiet) held agree still
