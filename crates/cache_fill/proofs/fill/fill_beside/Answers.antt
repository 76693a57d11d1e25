use Rattle.std.proofs.Common.{◌≡◌, ℕ, [], All, List, ap, arith, length, map, rules, subst, sym, ◌∙◌}
use Rattle.std.proofs.lemmas.List.{with_items_is}
use Rattle.caibx_codec.specs.Listing.{kind_of}
use Rattle.cache_fill.proofs.Filled.{answers_wider}
use Rattle.std.proofs.lemmas.List.Elements.{All-nil}
use Rattle.cache_fill.proofs.Progress.{hired_all, none_left}
use Rattle.cache_fill.proofs.Sparing.{none_dealt_lacking, shares_alone}
use Rattle.chunk_dealing.specs.Dealing.{DealsLacking, owner_of}
use Rattle.cache_fill.specs.Fetching.{SharesOut}
use Rattle.cache_fill.specs.FillProgress.{RiseByOne, FillAnswers, IsHired, shelf_at}
use Rattle.cache_store.specs.Shelves.{held_on}
use Rattle.store_chain.specs.Chains.{Chained}
use Rattle.cache_fill.proofs.fill.fill_beside.Goals as goal

pub fill_entries-requires-clause-lacking : goal.fill_entries-requires-clause-lacking
fill_entries-requires-clause-lacking g c = λ lifetimes bounds.
    let held = held_on (shelf_at g.F.Look g.S.Store c.args.first.value) in
    subst (λ (o : List ℕ). DealsLacking c.args.index.now held (owner_of o)) (sym c.none_dealt-none.ensures) (none_dealt_lacking c.args.index.now held)

pub fill_entries-requires-clause-hired : goal.fill_entries-requires-clause-hired
fill_entries-requires-clause-hired g c = λ lifetimes bounds.
    let none : c.deref_mut.result.now ≡ [] = search rules in
    subst (All (IsHired c.args.index.now c.none_dealt-none.result.owners.items)) (sym none) (All-nil (IsHired c.args.index.now c.none_dealt-none.result.owners.items))

pub returns-then-not-may_hire-clause-answers : goal.returns-then-not-may_hire-clause-answers
returns-then-not-may_hire-clause-answers g c =
    let S = g.S.Store in
    let first = c.args.first.value in
    let e = c.fill_entries.result in
    let now = c.fill_entries.new.cached in
    let cs = c.args.further.now.items in
    let news = c.fill_entries.new.readers in
    let none : c.deref_mut.result.now ≡ [] = search rules in
    let none_then : news ≡ [] = none_left news (omega (arith, c.fill_entries.auto.readers, ap length none)) in
    let A : List (Chained g.row.S.Denot) → List (Chained g.row.S.Denot) → Type 0 = λ cs ds.
    FillAnswers S c.args.index.now (shelf_at g.F.Look S first) (shelf_at g.F.Look S now) first.chain now.chain cs ds e.worker e.result in
    let alone = subst (λ xs. A [] (map (λ r. r.chain) xs)) none_then (subst (λ xs. A (map (λ r. r.chain) xs) (map (λ r. r.chain) news)) none c.fill_entries.ensures.answers) in
    answers_wider S c.args.index.now (shelf_at g.F.Look S first) (shelf_at g.F.Look S now) first.chain now.chain cs cs e.worker e.result alone

pub returns-then-not-may_hire-clause-dealt : goal.returns-then-not-may_hire-clause-dealt
returns-then-not-may_hire-clause-dealt g c =
    let S = g.S.Store in
    let first = c.args.first.value in
    let now = c.fill_entries.new.cached in
    let held = held_on (shelf_at g.F.Look S first) in
    let news = c.fill_entries.new.readers in
    let none : c.deref_mut.result.now ≡ [] = search rules in
    let none_then : news ≡ [] = none_left news (omega (arith, c.fill_entries.auto.readers, ap length none)) in
    let O : List (Chained g.row.S.Denot) → List (Chained g.row.S.Denot) → Type 0 = λ cs ds.
    SharesOut S c.args.index.now held first.chain now.chain cs ds in
    let alone = subst (λ xs. O [] (map (λ r. r.chain) xs)) none_then (subst (λ xs. O (map (λ r. r.chain) xs) (map (λ r. r.chain) news)) none c.fill_entries.ensures.dealt) in
    shares_alone c.args.index.now S held first.chain now.chain c.args.further.now.items alone

pub fill_entries-filled-requires-clause-hired : goal.fill_entries-filled-requires-clause-hired
fill_entries-filled-requires-clause-hired g c = λ lifetimes bounds.
    subst (All (IsHired c.args.index.now c.args.dealt.now.owners.items)) (sym c.deref_mut-2.ensures.value) (subst (λ o. All (IsHired c.args.index.now o) c.hire.new.readers.items) c.deref.ensures.value c.hire.ensures.hired)

pub fill_entries-filled-requires-clause-numbered : goal.fill_entries-filled-requires-clause-numbered
fill_entries-filled-requires-clause-numbered g c = λ lifetimes bounds.
    subst (RiseByOne 1) (sym c.deref_mut-2.ensures.value) c.hire.ensures.numbered

pub fill_entries-filled-requires-clause-kinds : goal.fill_entries-filled-requires-clause-kinds
fill_entries-filled-requires-clause-kinds g c = λ lifetimes bounds.
    let P : Chained g.row.S.Denot → Type 0 = λ x. x.kind ≡ kind_of c.args.index.now in
    subst (All (λ r. P r.chain)) (sym c.deref_mut-2.ensures.value) (hired_all P (λ r. r.chain) c.args.further.now.items c.hire.new.readers.items c.hire.ensures.kept c.requires.kinds)

pub fill_entries-filled-requires-clause-alike : goal.fill_entries-filled-requires-clause-alike
fill_entries-filled-requires-clause-alike g c = λ lifetimes bounds.
    let P : Chained g.row.S.Denot → Type 0 = λ x. map g.S.Store.holds x.stores ≡ map g.S.Store.holds c.args.cached.now.chain.stores in
    subst (All (λ r. P r.chain)) (sym c.deref_mut-2.ensures.value) (hired_all P (λ r. r.chain) c.args.further.now.items c.hire.new.readers.items c.hire.ensures.kept c.requires.alike)

pub fill_entries-filled-requires-clause-members : goal.fill_entries-filled-requires-clause-members
fill_entries-filled-requires-clause-members g c = λ lifetimes bounds.
    let P : Chained g.row.S.Denot → Type 0 = λ x. map g.S.Store.members x.stores ≡ map g.S.Store.members c.args.cached.now.chain.stores in
    subst (All (λ r. P r.chain)) (sym c.deref_mut-2.ensures.value) (hired_all P (λ r. r.chain) c.args.further.now.items c.hire.new.readers.items c.hire.ensures.kept c.requires.members)

pub returns-clause-answers : goal.returns-clause-answers
returns-clause-answers g c =
    let S = g.S.Store in
    let rs = c.hire.new.readers.items in
    let news = c.fill_entries-filled.new.readers in
    let items = with_items_is c.hire.new.readers news (omega (arith, c.fill_entries-filled.auto.readers, c.deref_mut-2.ensures.len)) in
    let is : c.dismiss.new.chains.items ≡ map (λ r. r.chain) news = c.dismiss.ensures.kept ∙ ap (map (λ r. r.chain)) items in
    let first = c.args.first.value in
    let e = c.fill_entries-filled.result in
    let now = c.fill_entries-filled.new.cached in
    let A : List (Chained g.row.S.Denot) → List (Chained g.row.S.Denot) → Type 0 = λ cs ds. FillAnswers S c.args.index.now (shelf_at g.F.Look S first) (shelf_at g.F.Look S now) first.chain now.chain cs ds e.worker e.result in
    let all = subst (λ xs. A (map (λ r. r.chain) xs) (map (λ r. r.chain) news)) c.deref_mut-2.ensures.value c.fill_entries-filled.ensures.answers in
    subst (λ cs. A cs c.dismiss.new.chains.items) (sym c.hire.ensures.kept) (subst (A (map (λ r. r.chain) rs)) (sym is) all)

pub returns-clause-dealt : goal.returns-clause-dealt
returns-clause-dealt g c =
    let S = g.S.Store in
    let rs = c.hire.new.readers.items in
    let news = c.fill_entries-filled.new.readers in
    let items = with_items_is c.hire.new.readers news (omega (arith, c.fill_entries-filled.auto.readers, c.deref_mut-2.ensures.len)) in
    let is : c.dismiss.new.chains.items ≡ map (λ r. r.chain) news = c.dismiss.ensures.kept ∙ ap (map (λ r. r.chain)) items in
    let first = c.args.first.value in
    let O : List (Chained g.row.S.Denot) → List (Chained g.row.S.Denot) → Type 0 = λ cs ds. SharesOut S c.args.index.now (held_on (shelf_at g.F.Look S first)) first.chain c.fill_entries-filled.new.cached.chain cs ds in
    let all = subst (λ xs. O (map (λ r. r.chain) xs) (map (λ r. r.chain) news)) c.deref_mut-2.ensures.value c.fill_entries-filled.ensures.dealt in
    subst (λ cs. O cs c.dismiss.new.chains.items) (sym c.hire.ensures.kept) (subst (O (map (λ r. r.chain) rs)) (sym is) all)
