use Rattle.std.proofs.Common.{◌≡◌, ◌∙◌, [], ◌∷◌, All, length, map, subst}
use Rattle.std.proofs.lemmas.List.Elements.{length_all_zip}
use Rattle.cache_command.proofs.AskedListings.{alike_on, all_listed, remade_alike, remade_asked, remade_shares, shares_by}
use Rattle.cache_command.proofs.CacheFilled.{index_filled, worker_inside}
use Rattle.cache_command.proofs.filling.fill_by.Goals as goal
use Rattle.cache_command.specs.Caching.{IndexFilled, listed_times, of_calls}
use Rattle.cache_command.specs.Filling.{each_stores}
use Rattle.cache_fill.specs.Filling.{FetchesAhead}
use Rattle.cache_store.specs.Shelves.{shelf_of}
use Rattle.chunk_store.specs.declared.id.DigestKind.{DigestKind}

pub fill-filled-requires-clause-kind : goal.fill-filled-requires-clause-kind
fill-filled-requires-clause-kind g c κs within = c.remake-filling.ensures.kind ∙ c.kind.ensures

pub fill-filled-requires-clause-kinds : goal.fill-filled-requires-clause-kinds
fill-filled-requires-clause-kinds g c κs within = subst (λ (k : DigestKind). All (λ x. x.kind ≡ k) c.remake-filling.result.further.items) c.kind.ensures c.remake-filling.ensures.kinds

pub fill-filled-requires-clause-alike : goal.fill-filled-requires-clause-alike
fill-filled-requires-clause-alike g c κs within =
    let old = c.args.filling in
    let now = c.remake-filling.result in
    (remade_alike _ old.cached.chain now.cached.chain old.further.items now.further.items c.remake-filling.ensures.stores c.remake-filling.ensures.further c.requires.alike).held

pub fill-filled-requires-clause-members : goal.fill-filled-requires-clause-members
fill-filled-requires-clause-members g c κs within =
    let old = c.args.filling in
    let now = c.remake-filling.result in
    (remade_alike _ old.cached.chain now.cached.chain old.further.items now.further.items c.remake-filling.ensures.stores c.remake-filling.ensures.further c.requires.alike).members

pub returns-clause-filled : goal.returns-clause-filled
returns-clause-filled g c =
    let W = g.W.Look in
    let store = g.S.Store in
    let l = c.args.index.now in
    let made = c.remake-filling.ensures in
    let first = c.args.filling in
    let old = c.remake-filling.result.cached in
    let more = c.remake-filling.result.further.items in
    let new = c.fill-filled.new.cached in
    let further = c.fill-filled.new.further.items in
    let over = c.fill-filled.ensures in
    let worker = c.fill-filled.result.worker in
    let r = c.fill-filled.result.result in
    let many : length more ≡ length further = length_all_zip (FetchesAhead store l) more further over.further in
    let alike = (remade_alike store first.cached.chain old.chain first.further.items more made.stores made.further c.requires.alike).held in
    let filled = index_filled store (g.met.S.Store g.world.𝓛 g.world.𝓜 g.world.𝓡 ((λ s y. y), (λ y. y), (λ y. y), (λ y. y))).lies (g.met.S.Store g.world.𝓛 g.world.𝓜 g.world.𝓡 ((λ s y. y), (λ y. y), (λ y. y), (λ y. y))).alone l (shelf_of W.files W.place W.faults old.shelf) (shelf_of W.files W.place W.faults new.shelf) old.chain new.chain more further worker
    over.stores many alike r over.order over.stocks over.holds over.exactly in
    let same : each_stores (old.chain ∷ more) ≡ each_stores (first.cached.chain ∷ first.further.items) = cc (made.stores, made.further) in
    let by_stores = subst (λ xs. IndexFilled (of_calls store xs (each_stores (new.chain ∷ further)) worker (W.faults old.shelf.folder) (W.faults new.shelf.folder)) l (W.files old.shelf.folder) (W.files new.shelf.folder) r) same filled in
    let by_folder = subst (λ f. IndexFilled (of_calls store (each_stores (first.cached.chain ∷ first.further.items)) (each_stores (new.chain ∷ further)) worker (W.faults f) (W.faults new.shelf.folder)) l (W.files f) (W.files new.shelf.folder) r) made.folder by_stores in
    (r, c.answer_of.ensures, by_folder)

pub returns-clause-refuser : goal.returns-clause-refuser
returns-clause-refuser g c =
    let W = g.W.Look in
    let store = g.S.Store in
    let l = c.args.index.now in
    let made = c.remake-filling.ensures in
    let first = c.args.filling in
    let old = c.remake-filling.result.cached in
    let more = c.remake-filling.result.further.items in
    let new = c.fill-filled.new.cached in
    let further = c.fill-filled.new.further.items in
    let over = c.fill-filled.ensures in
    worker_inside store l (shelf_of W.files W.place W.faults old.shelf) (shelf_of W.files W.place W.faults new.shelf) old.chain new.chain more further c.fill-filled.result.worker c.fill-filled.result.result over.order

pub returns-clause-shares : goal.returns-clause-shares
returns-clause-shares g c =
    let first = c.args.filling in
    let old = c.remake-filling.result in
    let new = c.fill-filled.new in
    let made = c.remake-filling.ensures in
    let same : map (λ x. x.stores) (old.cached.chain ∷ old.further.items) ≡ map (λ x. x.stores) (first.cached.chain ∷ first.further.items) = cc (made.stores, made.further) in
    let by = shares_by g.S.Store c.args.index.now (old.cached.chain ∷ old.further.items) (new.cached.chain ∷ new.further.items) c.fill-filled.ensures.shares in
    remade_shares g.S.Store (listed_times (c.args.index.now ∷ [])) (first.cached.chain ∷ first.further.items) (old.cached.chain ∷ old.further.items) (new.cached.chain ∷ new.further.items) same by

pub returns-clause-asks : goal.returns-clause-asks
returns-clause-asks g c =
    let first = c.args.filling in
    let old = c.remake-filling.result in
    let new = c.fill-filled.new in
    let made = c.remake-filling.ensures in
    let over = c.fill-filled.ensures in
    let listed = all_listed _ c.args.index.now old.cached.chain new.cached.chain old.further.items new.further.items over.asks over.stores over.further in
    let same : map (λ x. x.stores) (old.cached.chain ∷ old.further.items) ≡ map (λ x. x.stores) (first.cached.chain ∷ first.further.items) = cc (made.stores, made.further) in
    remade_asked _ (c.args.index.now ∷ []) (first.cached.chain ∷ first.further.items) (old.cached.chain ∷ old.further.items) (new.cached.chain ∷ new.further.items) same listed

pub returns-clause-alike : goal.returns-clause-alike
returns-clause-alike g c =
    let first = c.args.filling in
    let old = c.remake-filling.result in
    let made = c.remake-filling.ensures in
    let over = c.fill-filled.ensures in
    let alike = remade_alike _ first.cached.chain old.cached.chain first.further.items old.further.items made.stores made.further c.requires.alike in
    alike_on _ c.args.index.now old.cached.chain c.fill-filled.new.cached.chain old.further.items c.fill-filled.new.further.items over.stores.held over.stores.members over.further alike
