use Rattle.std.proofs.Common.{Ok, Err, length, sym, subst}
use Rattle.cache_store.specs.Shelves.{shelf_of}
use Rattle.caibx_codec.specs.Listing.{Listing}
use Rattle.store_chain.specs.Queries.{FillsQuery}
use Rattle.store_chain.specs.declared.query.Query.{Query}
use Rattle.cache_fill.proofs.EntryCalls.{Ends, call_failed, call_gives, call_lacked, call_refused, entry_kept, none_added, refused_held, want_is}
use Rattle.cache_fill.specs.Filling.{EntryFails}
use Rattle.cache_fill.specs.declared.fill.FillFault.{FillFault}
use Rattle.cache_fill.proofs.entry.fill_entry.Goals as goal

pub returns-in-Yes-clause-given : goal.returns-in-Yes-clause-given
returns-in-Yes-clause-given g c =
    let F = g.F.Look in
    let S = g.S.Store in
    let l : Listing = c.args.index.now in
    let i = c.args.i in
    let entry = c.entry-entry.result in
    let is_id = c.entry-entry.ensures.id in
    let got = c.in-Ok.got in
    let out = c.obtain.new.out in
    let wanted = want_is l i entry.id c.args.cached.now.chain.kind entry.size (length c.args.chunk.now) c.requires.kind c.entry-entry.ensures.size in
    let Given : Query → Type 0 = λ w. FillsQuery w got.size out in
    let Had : Query → Type 0 = λ w. Ends F.files F.place F.faults S l i entry.id is_id
    c.args.cached.now c.obtain.new.self out w (Ok got) in
    λ m maps held told quiet. call_gives F.files F.place F.faults S l i entry.id is_id
    c.args.cached.now c.obtain.new.self out got
    (subst Given wanted c.in-Ok.ensures.ok) m maps held told quiet (subst Had wanted c.in-Ok.ensures.ends)

pub returns-in-Err-clause-err : goal.returns-in-Err-clause-err
returns-in-Err-clause-err g c =
    let F = g.F.Look in
    let S = g.S.Store in
    let l : Listing = c.args.index.now in
    let i = c.args.i in
    let entry = c.entry-entry.result in
    let is_id = c.entry-entry.ensures.id in
    let out = c.obtain.new.out in
    let wanted = want_is l i entry.id c.args.cached.now.chain.kind entry.size (length c.args.chunk.now) c.requires.kind c.entry-entry.ensures.size in
    let Had : Query → Type 0 = λ w. Ends F.files F.place F.faults S l i entry.id is_id
    c.args.cached.now c.obtain.new.self out w (Err c.in-Err.refused) in
    let Told : FillFault → Type 0 = λ f. EntryFails S l i
    (shelf_of F.files F.place F.faults c.args.cached.now.shelf) (shelf_of F.files F.place F.faults c.obtain.new.self.shelf)
    c.args.cached.now.chain c.obtain.new.self.chain f in
    subst Told (sym c.fault_at.ensures.value)
    (call_refused F.files F.place F.faults S l i entry.id is_id
    c.args.cached.now c.obtain.new.self out
    c.in-Err.refused (subst Had wanted c.in-Err.ensures.ends))

pub returns-in-Failed-clause-err : goal.returns-in-Failed-clause-err
returns-in-Failed-clause-err g c =
    let F = g.F.Look in
    let S = g.S.Store in
    let l : Listing = c.args.index.now in
    let i = c.args.i in
    let entry = c.entry-entry.result in
    let is_id = c.entry-entry.ensures.id in
    let got = c.in-Ok.got in
    let out = c.obtain.new.out in
    let wanted = want_is l i entry.id c.args.cached.now.chain.kind entry.size (length c.args.chunk.now) c.requires.kind c.entry-entry.ensures.size in
    let Given : Query → Type 0 = λ w. FillsQuery w got.size out in
    let Had : Query → Type 0 = λ w. Ends F.files F.place F.faults S l i entry.id is_id
    c.args.cached.now c.obtain.new.self out w (Ok got) in
    let call = call_failed F.files F.place F.faults S l i entry.id is_id
    c.args.cached.now c.obtain.new.self out got
    (subst Given wanted c.in-Ok.ensures.ok) (λ s. g.met.S.Store.alone s) (λ x m. c.put_changes_one_chunk.ensures.kept entry.id.0 x m) c.in-Failed.is (subst Had wanted c.in-Ok.ensures.ends) in
    call.0

pub returns-in-Failed-clause-kept : goal.returns-in-Failed-clause-kept
returns-in-Failed-clause-kept g c =
    let F = g.F.Look in
    let S = g.S.Store in
    let l : Listing = c.args.index.now in
    let i = c.args.i in
    let entry = c.entry-entry.result in
    let is_id = c.entry-entry.ensures.id in
    let got = c.in-Ok.got in
    let out = c.obtain.new.out in
    let wanted = want_is l i entry.id c.args.cached.now.chain.kind entry.size (length c.args.chunk.now) c.requires.kind c.entry-entry.ensures.size in
    let Given : Query → Type 0 = λ w. FillsQuery w got.size out in
    let Had : Query → Type 0 = λ w. Ends F.files F.place F.faults S l i entry.id is_id
    c.args.cached.now c.obtain.new.self out w (Ok got) in
    let call = call_failed F.files F.place F.faults S l i entry.id is_id
    c.args.cached.now c.obtain.new.self out got
    (subst Given wanted c.in-Ok.ensures.ok) (λ s. g.met.S.Store.alone s) (λ x m. c.put_changes_one_chunk.ensures.kept entry.id.0 x m) c.in-Failed.is (subst Had wanted c.in-Ok.ensures.ends) in
    none_added _ (shelf_of F.files F.place F.faults c.args.cached.now.shelf) (shelf_of F.files F.place F.faults c.obtain.new.self.shelf) c.obtain.ensures.stocks call.1

pub returns-in-Memory-clause-err : goal.returns-in-Memory-clause-err
returns-in-Memory-clause-err g c =
    let F = g.F.Look in
    let S = g.S.Store in
    let l : Listing = c.args.index.now in
    let i = c.args.i in
    let entry = c.entry-entry.result in
    let is_id = c.entry-entry.ensures.id in
    let got = c.in-Ok.got in
    let out = c.obtain.new.out in
    let wanted = want_is l i entry.id c.args.cached.now.chain.kind entry.size (length c.args.chunk.now) c.requires.kind c.entry-entry.ensures.size in
    let Given : Query → Type 0 = λ w. FillsQuery w got.size out in
    let Had : Query → Type 0 = λ w. Ends F.files F.place F.faults S l i entry.id is_id
    c.args.cached.now c.obtain.new.self out w (Ok got) in
    let call = call_lacked F.files F.place F.faults S l i entry.id is_id
    c.args.cached.now c.obtain.new.self out got
    (subst Given wanted c.in-Ok.ensures.ok) (λ s. g.met.S.Store.alone s) (λ x m. c.put_changes_one_chunk.ensures.kept entry.id.0 x m) c.in-Memory.is (subst Had wanted c.in-Ok.ensures.ends) in
    call.0

pub returns-in-Memory-clause-kept : goal.returns-in-Memory-clause-kept
returns-in-Memory-clause-kept g c =
    let F = g.F.Look in
    let S = g.S.Store in
    let l : Listing = c.args.index.now in
    let i = c.args.i in
    let entry = c.entry-entry.result in
    let is_id = c.entry-entry.ensures.id in
    let got = c.in-Ok.got in
    let out = c.obtain.new.out in
    let wanted = want_is l i entry.id c.args.cached.now.chain.kind entry.size (length c.args.chunk.now) c.requires.kind c.entry-entry.ensures.size in
    let Given : Query → Type 0 = λ w. FillsQuery w got.size out in
    let Had : Query → Type 0 = λ w. Ends F.files F.place F.faults S l i entry.id is_id
    c.args.cached.now c.obtain.new.self out w (Ok got) in
    let call = call_lacked F.files F.place F.faults S l i entry.id is_id
    c.args.cached.now c.obtain.new.self out got
    (subst Given wanted c.in-Ok.ensures.ok) (λ s. g.met.S.Store.alone s) (λ x m. c.put_changes_one_chunk.ensures.kept entry.id.0 x m) c.in-Memory.is (subst Had wanted c.in-Ok.ensures.ends) in
    none_added _ (shelf_of F.files F.place F.faults c.args.cached.now.shelf) (shelf_of F.files F.place F.faults c.obtain.new.self.shelf) c.obtain.ensures.stocks call.1

pub returns-in-Err-clause-kept : goal.returns-in-Err-clause-kept
returns-in-Err-clause-kept g c =
    let F = g.F.Look in
    let entry = c.entry-entry.result in
    none_added _ (shelf_of F.files F.place F.faults c.args.cached.now.shelf) (shelf_of F.files F.place F.faults c.obtain.new.self.shelf) c.obtain.ensures.stocks
    (refused_held F.files F.place F.faults g.S.Store c.args.index.now c.args.i entry.id c.entry-entry.ensures.id
    c.args.cached.now c.obtain.new.self c.obtain.new.out _ c.in-Err.refused c.in-Err.ensures.ends)

pub returns-in-Yes-clause-stores : goal.returns-in-Yes-clause-stores
returns-in-Yes-clause-stores g c =
    entry_kept g.S.Store c.args.index.now c.args.i c.entry-entry.result.id.0 c.args.cached.now.chain.stores c.obtain.new.self.chain.stores c.entry-entry.ensures.id c.obtain.ensures.stores

pub returns-in-Failed-clause-stores : goal.returns-in-Failed-clause-stores
returns-in-Failed-clause-stores g c =
    entry_kept g.S.Store c.args.index.now c.args.i c.entry-entry.result.id.0 c.args.cached.now.chain.stores c.obtain.new.self.chain.stores c.entry-entry.ensures.id c.obtain.ensures.stores

pub returns-in-Memory-clause-stores : goal.returns-in-Memory-clause-stores
returns-in-Memory-clause-stores g c =
    entry_kept g.S.Store c.args.index.now c.args.i c.entry-entry.result.id.0 c.args.cached.now.chain.stores c.obtain.new.self.chain.stores c.entry-entry.ensures.id c.obtain.ensures.stores

pub returns-in-Err-clause-stores : goal.returns-in-Err-clause-stores
returns-in-Err-clause-stores g c =
    entry_kept g.S.Store c.args.index.now c.args.i c.entry-entry.result.id.0 c.args.cached.now.chain.stores c.obtain.new.self.chain.stores c.entry-entry.ensures.id c.obtain.ensures.stores
