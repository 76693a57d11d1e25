use Rattle.std.proofs.Common.{◌∷◌, subst, sym, arith}
use Rattle.caibx_codec.specs.Asks.{IsListedGet}
use Rattle.cache_fill.proofs.Filled.{asked_all, fetched_none, none_asked}
use Rattle.cache_fill.proofs.Sparing.{all_ahead, all_spare, calls_of, shares_of, shares_still, spared_none}
use Rattle.chunk_dealing.specs.Dealing.{DealsLacking, owner_of}
use Rattle.cache_fill.specs.Fetching.{SharesOut}
use Rattle.cache_fill.specs.FillProgress.{FillAnswers, shelf_at}
use Rattle.cache_store.specs.Shelves.{held_on}
use Rattle.cache_store.specs.Through.{Behind}
use Rattle.store_chain.proofs.Kept.{kept_still}
use Rattle.cache_fill.proofs.fill.fill.Goals as goal

pub returns-in_default-clause-asks : goal.returns-in_default-clause-asks
returns-in_default-clause-asks g c =
    let S = g.S.Store in
    let chain = c.args.cached.now.chain in
    asked_all S.asked S.queried c.args.index.now 0 (omega arith) chain chain (none_asked S.asked S.queried c.args.index.now chain)

pub returns-in_default-clause-stores : goal.returns-in_default-clause-stores
returns-in_default-clause-stores g c = kept_still g.S.Store (IsListedGet c.args.index.now) c.args.cached.now.chain.stores

pub returns-in_default-clause-further : goal.returns-in_default-clause-further
returns-in_default-clause-further g c = fetched_none g.S.Store c.args.index.now c.args.further.now.items

pub returns-in_default-clause-unasked : goal.returns-in_default-clause-unasked
returns-in_default-clause-unasked g c =
    spared_none g.S.Store.asked (held_on (shelf_at g.F.Look g.S.Store c.args.cached.now)) c.args.further.now.items

pub returns-in_default-clause-shares : goal.returns-in_default-clause-shares
returns-in_default-clause-shares g c = shares_still c.args.index.now g.S.Store (λ i. 0) (c.args.cached.now.chain ∷ c.args.further.now.items)

pub fill_beside-requires-clause-lacking : goal.fill_beside-requires-clause-lacking
fill_beside-requires-clause-lacking g c =
    let L : Behind g.row.F.Denot g.row.S.Denot → Type 0 = λ b.
    DealsLacking c.args.index.now (held_on (shelf_at g.F.Look g.S.Store b)) (owner_of c.deal_ahead-dealt.result.owners.items) in
    λ lifetimes bounds. subst L (sym c.of-first.ensures) c.deal_ahead-dealt.ensures.only

pub returns-clause-further : goal.returns-clause-further
returns-clause-further g c =
    let out = c.fill_beside.ensures.dealt in
    all_ahead c.args.index.now g.S.Store out.owner c.args.further.now.items c.fill_beside.new.further.items out.further

pub returns-clause-unasked : goal.returns-clause-unasked
returns-clause-unasked g c =
    let O : Behind g.row.F.Denot g.row.S.Denot → Type 0 = λ b.
    SharesOut g.S.Store c.args.index.now (held_on (shelf_at g.F.Look g.S.Store b)) b.chain c.fill_beside.new.cached.chain c.args.further.now.items c.fill_beside.new.further.items in
    let out = subst O c.of-first.ensures c.fill_beside.ensures.dealt in
    all_spare c.args.index.now g.S.Store out.owner (held_on (shelf_at g.F.Look g.S.Store c.args.cached.now)) out.lacking c.args.further.now.items c.fill_beside.new.further.items out.further

pub returns-clause-shares : goal.returns-clause-shares
returns-clause-shares g c =
    let held = held_on (shelf_at g.F.Look g.S.Store c.args.cached.now) in
    let O : Behind g.row.F.Denot g.row.S.Denot → Type 0 = λ b.
    SharesOut g.S.Store c.args.index.now (held_on (shelf_at g.F.Look g.S.Store b)) b.chain c.fill_beside.new.cached.chain c.args.further.now.items c.fill_beside.new.further.items in
    shares_of c.args.index.now g.S.Store held c.args.cached.now.chain c.fill_beside.new.cached.chain c.args.further.now.items c.fill_beside.new.further.items (subst O c.of-first.ensures c.fill_beside.ensures.dealt)

pub returns-clause-calls : goal.returns-clause-calls
returns-clause-calls g c =
    let held = held_on (shelf_at g.F.Look g.S.Store c.args.cached.now) in
    let O : Behind g.row.F.Denot g.row.S.Denot → Type 0 = λ b.
    SharesOut g.S.Store c.args.index.now (held_on (shelf_at g.F.Look g.S.Store b)) b.chain c.fill_beside.new.cached.chain c.args.further.now.items c.fill_beside.new.further.items in
    calls_of c.args.index.now g.S.Store held c.args.cached.now.chain c.fill_beside.new.cached.chain c.args.further.now.items c.fill_beside.new.further.items (subst O c.of-first.ensures c.fill_beside.ensures.dealt)

pub returns-clause-exactly : goal.returns-clause-exactly
returns-clause-exactly g c = λ m maps nothing quiet.
    let S = g.S.Store in
    let A : Behind g.row.F.Denot g.row.S.Denot → Type 0 = λ b.
    FillAnswers S c.args.index.now (shelf_at g.F.Look S b) (shelf_at g.F.Look S c.fill_beside.new.cached) b.chain c.fill_beside.new.cached.chain c.args.further.now.items c.fill_beside.new.further.items c.fill_beside.result.worker c.fill_beside.result.result in
    (subst A c.of-first.ensures c.fill_beside.ensures.answers).exactly m maps nothing quiet

pub returns-clause-order : goal.returns-clause-order
returns-clause-order g c =
    let S = g.S.Store in
    let A : Behind g.row.F.Denot g.row.S.Denot → Type 0 = λ b.
    FillAnswers S c.args.index.now (shelf_at g.F.Look S b) (shelf_at g.F.Look S c.fill_beside.new.cached) b.chain c.fill_beside.new.cached.chain c.args.further.now.items c.fill_beside.new.further.items c.fill_beside.result.worker c.fill_beside.result.result in
    (subst A c.of-first.ensures c.fill_beside.ensures.answers).order
