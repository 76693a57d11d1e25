use Rattle.std.proofs.Common.{◌≡◌, ℕ, length, Some, Ok, Err, refl}
use Rattle.std.proofs.lemmas.Result.{err_from_is_err_and}
use Rattle.chunk_sources.proofs.Behind.{asked_through, asks_through, err_shared, fetched_through, had_through, lacks_through, ok_shared, refused_through, takes_wanted}
use Rattle.chunk_sources.proofs.Cached.{stocked_wider}
use Rattle.chunk_sources.specs.Caches.{TakesChunk}
use Rattle.chunk_sources.specs.Losses.{chunk_of}
use Rattle.range_survey.specs.declared.fate.Fate.TheVariants as fate
use Rattle.store_chain.specs.Giving.{SomeHolds}
use Rattle.store_chain.specs.Queries.{IsWanted}
use Rattle.chunk_sources.proofs.upstream.from_cache.Goals as goal

pub returns-in_err-got-clause-exactly : goal.returns-in_err-got-clause-exactly
returns-in_err-got-clause-exactly g c = λ alone cached maps told quiet held agree still.
    let p = err_from_is_err_and c.from_residual.result c.from_residual.ensures.1 in
    rw (p.1, p.2) (refused_through g.S.Store c.args.chain.now.kind c.args.id.now (length c.args.chunk.now)
    (g.C.Cache.shelf c.args.cache.now) (g.C.Cache.shelf c.obtain_through.new.cache) c.args.chain.now c.obtain_through.new.chain c.obtain_through.new.out
    alone cached maps told held agree quiet still c.in_err-got.field-0.0 c.in_err-got.ensures.ends)

pub returns-then-got-clause-had : goal.returns-then-got-clause-had
returns-then-got-clause-had g c = λ cached maps told held.
    had_through g.S.Store c.args.chain.now.kind c.args.id.now (length c.args.chunk.now)
    (g.C.Cache.shelf c.args.cache.now) (g.C.Cache.shelf c.obtain_through.new.cache) c.args.chain.now c.obtain_through.new.chain c.obtain_through.new.out
    cached maps told held c.in_ok-got.got c.in_ok-got.ensures.ok.wanted c.in_ok-got.ensures.ends

pub returns-else-got-clause-had : goal.returns-else-got-clause-had
returns-else-got-clause-had g c = λ cached maps told held.
    had_through g.S.Store c.args.chain.now.kind c.args.id.now (length c.args.chunk.now)
    (g.C.Cache.shelf c.args.cache.now) (g.C.Cache.shelf c.obtain_through.new.cache) c.args.chain.now c.obtain_through.new.chain c.obtain_through.new.out
    cached maps told held c.in_ok-got.got c.in_ok-got.ensures.ok.wanted c.in_ok-got.ensures.ends

pub returns-then-got-clause-exactly : goal.returns-then-got-clause-exactly
returns-then-got-clause-exactly g c = λ alone cached maps told quiet held agree still.
    fetched_through g.S.Store c.args.chain.now.kind c.args.id.now (length c.args.chunk.now)
    (g.C.Cache.shelf c.args.cache.now) (g.C.Cache.shelf c.obtain_through.new.cache) c.args.chain.now c.obtain_through.new.chain c.obtain_through.new.out
    alone cached maps told held agree quiet c.in_ok-got.got c.if-got.true c.in_ok-got.ensures.ok.wanted c.in_ok-got.ensures.ends

pub returns-then-got-clause-stocked : goal.returns-then-got-clause-stocked
returns-then-got-clause-stocked g c =
    let stores = c.args.chain.now.stores in
    let size : ℕ = length c.args.chunk.now in
    stocked_wider (λ q b. (q ≡ c.args.id.now.0) × IsWanted (chunk_of c.args.chain.now.kind c.args.id.now size) b × SomeHolds g.S.Store.members stores q b)
    (TakesChunk g.S.Store c.args.chain.now.kind c.args.id.now.0 size stores) (takes_wanted g.S.Store c.args.chain.now.kind c.args.id.now size stores)
    (Some (g.C.Cache.shelf c.args.cache.now)) (Some (g.C.Cache.shelf c.obtain_through.new.cache)) c.in_ok-got.ensures.stocks

pub returns-then-got-clause-asks : goal.returns-then-got-clause-asks
returns-then-got-clause-asks g c =
    asks_through g.S.Store c.args.chain.now.kind c.args.id.now (length c.args.chunk.now)
    (g.C.Cache.shelf c.args.cache.now) (g.C.Cache.shelf c.obtain_through.new.cache) c.args.chain.now c.obtain_through.new.chain c.obtain_through.new.out
    c.requires.kind (g.met.C.Cache.digest c.args.cache.now) (Ok c.in_ok-got.got) c.in_ok-got.ensures.ends

pub returns-in_err-got-clause-asks : goal.returns-in_err-got-clause-asks
returns-in_err-got-clause-asks g c =
    asks_through g.S.Store c.args.chain.now.kind c.args.id.now (length c.args.chunk.now)
    (g.C.Cache.shelf c.args.cache.now) (g.C.Cache.shelf c.obtain_through.new.cache) c.args.chain.now c.obtain_through.new.chain c.obtain_through.new.out
    c.requires.kind (g.met.C.Cache.digest c.args.cache.now) (Err c.in_err-got.field-0.0) c.in_err-got.ensures.ends

pub returns-in_err-got-clause-asked : goal.returns-in_err-got-clause-asked
returns-in_err-got-clause-asked g c =
    let p = err_from_is_err_and c.from_residual.result c.from_residual.ensures.1 in
    rw (p.1, p.2) (asked_through g.S.Store c.args.chain.now.kind c.args.id.now (length c.args.chunk.now)
    (g.C.Cache.shelf c.args.cache.now) (g.C.Cache.shelf c.obtain_through.new.cache) c.args.chain.now c.obtain_through.new.chain c.obtain_through.new.out
    c.requires.kind (g.met.C.Cache.digest c.args.cache.now) c.in_err-got.field-0.0 c.in_err-got.ensures.ends)

pub returns-in_err-got-clause-missed : goal.returns-in_err-got-clause-missed
returns-in_err-got-clause-missed g c =
    let p = err_from_is_err_and c.from_residual.result c.from_residual.ensures.1 in
    rw (p.1, p.2) (λ isnt alone. lacks_through g.S.Store c.args.chain.now.kind c.args.id.now (length c.args.chunk.now)
    (g.C.Cache.shelf c.args.cache.now) (g.C.Cache.shelf c.obtain_through.new.cache) c.args.chain.now c.obtain_through.new.chain c.obtain_through.new.out
    alone c.in_err-got.field-0.0 c.in_err-got.ensures.ends isnt)

-- ---- where others add to it too

pub returns-then-got-clause-shared : goal.returns-then-got-clause-shared
returns-then-got-clause-shared g c = λ cached maps only told quiet held agree still.
    ok_shared g.S.Store c.args.chain.now.kind c.args.id.now (length c.args.chunk.now)
    (g.C.Cache.shelf c.args.cache.now) (g.C.Cache.shelf c.obtain_through.new.cache) c.args.chain.now c.obtain_through.new.chain c.obtain_through.new.out
    cached maps only told held agree c.in_ok-got.got fate.Fetched refl c.in_ok-got.ensures.ok.wanted c.in_ok-got.ensures.ends

pub returns-else-got-clause-shared : goal.returns-else-got-clause-shared
returns-else-got-clause-shared g c = λ cached maps only told quiet held agree still.
    ok_shared g.S.Store c.args.chain.now.kind c.args.id.now (length c.args.chunk.now)
    (g.C.Cache.shelf c.args.cache.now) (g.C.Cache.shelf c.obtain_through.new.cache) c.args.chain.now c.obtain_through.new.chain c.obtain_through.new.out
    cached maps only told held agree c.in_ok-got.got fate.Cached refl c.in_ok-got.ensures.ok.wanted c.in_ok-got.ensures.ends

pub returns-in_err-got-clause-shared : goal.returns-in_err-got-clause-shared
returns-in_err-got-clause-shared g c = λ cached maps only told quiet held agree still.
    let p = err_from_is_err_and c.from_residual.result c.from_residual.ensures.1 in
    rw (p.1, p.2) (err_shared g.S.Store c.args.chain.now.kind c.args.id.now (length c.args.chunk.now)
    (g.C.Cache.shelf c.args.cache.now) (g.C.Cache.shelf c.obtain_through.new.cache) c.args.chain.now c.obtain_through.new.chain c.obtain_through.new.out
    cached maps only told held agree c.requires.kind (g.met.C.Cache.digest c.args.cache.now) quiet still c.in_err-got.field-0.0 c.in_err-got.ensures.ends)
