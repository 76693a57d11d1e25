use Rattle.std.proofs.Common.{IfSome, length, inr, refl, rules, subst, ◌∙◌}
use Rattle.cache_fill.proofs.Ahead.{ahead_given, ahead_loses, ahead_stocks, kept_none, look_missed}
use Rattle.cache_fill.specs.Fetching.{SomeHoldsEntry}
use Rattle.cache_store.specs.Shelves.{shelf_of}
use Rattle.dsy_base.proofs.Counts.{rose_later}
use Rattle.image_slices.specs.Ahead.{IsListedSlice}
use Rattle.cache_fill.proofs.entry.add_ahead.Goals as goal

pub returns-in-Yes-clause-stocks : goal.returns-in-Yes-clause-stocks
returns-in-Yes-clause-stocks g c =
    let F = g.F.Look in
    let members = g.S.Store.members in
    let l = c.args.index.now in
    let stores = c.args.cached.now.chain.stores in
    let read = subst (λ r. IfSome r (λ b. IsListedSlice l (SomeHoldsEntry members l stores) c.args.i b.now)) c.in-Some.is c.requires.read in
    ahead_stocks l c.args.i c.requires.listed c.entry-entry.result.id c.entry-entry.ensures.id members stores c.in-Some.bytes.now read
    (shelf_of F.files F.place F.faults c.args.cached.now.shelf) (shelf_of F.files F.place F.faults c.look.new.self.shelf) (shelf_of F.files F.place F.faults c.keep.new.self.shelf) c.look.ensures.kept c.keep.ensures.stocks

pub returns-in-Yes-clause-given : goal.returns-in-Yes-clause-given
returns-in-Yes-clause-given g c = λ m maps held told.
    let members = g.S.Store.members in
    let l = c.args.index.now in
    let stores = c.args.cached.now.chain.stores in
    let read = subst (λ r. IfSome r (λ b. IsListedSlice l (SomeHoldsEntry members l stores) c.args.i b.now)) c.in-Some.is c.requires.read in
    ahead_given l c.args.i c.requires.listed c.entry-entry.result.id c.entry-entry.ensures.id members stores c.in-Some.bytes.now read g.S.Store.holds (λ s. g.met.S.Store.alone s) m maps told

pub returns-in-Failed-clause-stocks : goal.returns-in-Failed-clause-stocks
returns-in-Failed-clause-stocks g c =
    let F = g.F.Look in
    let members = g.S.Store.members in
    let l = c.args.index.now in
    let stores = c.args.cached.now.chain.stores in
    let read = subst (λ r. IfSome r (λ b. IsListedSlice l (SomeHoldsEntry members l stores) c.args.i b.now)) c.in-Some.is c.requires.read in
    ahead_stocks l c.args.i c.requires.listed c.entry-entry.result.id c.entry-entry.ensures.id members stores c.in-Some.bytes.now read
    (shelf_of F.files F.place F.faults c.args.cached.now.shelf) (shelf_of F.files F.place F.faults c.look.new.self.shelf) (shelf_of F.files F.place F.faults c.keep.new.self.shelf) c.look.ensures.kept c.keep.ensures.stocks

pub returns-in-Memory-clause-stocks : goal.returns-in-Memory-clause-stocks
returns-in-Memory-clause-stocks g c =
    let F = g.F.Look in
    let members = g.S.Store.members in
    let l = c.args.index.now in
    let stores = c.args.cached.now.chain.stores in
    let read = subst (λ r. IfSome r (λ b. IsListedSlice l (SomeHoldsEntry members l stores) c.args.i b.now)) c.in-Some.is c.requires.read in
    ahead_stocks l c.args.i c.requires.listed c.entry-entry.result.id c.entry-entry.ensures.id members stores c.in-Some.bytes.now read
    (shelf_of F.files F.place F.faults c.args.cached.now.shelf) (shelf_of F.files F.place F.faults c.look.new.self.shelf) (shelf_of F.files F.place F.faults c.keep.new.self.shelf) c.look.ensures.kept c.keep.ensures.stocks

pub returns-in-Failed-clause-kept : goal.returns-in-Failed-clause-kept
returns-in-Failed-clause-kept g c =
    let F = g.F.Look in
    let id = c.entry-entry.result.id.0 in
    kept_none id _ (shelf_of F.files F.place F.faults c.args.cached.now.shelf) (shelf_of F.files F.place F.faults c.look.new.self.shelf) (shelf_of F.files F.place F.faults c.keep.new.self.shelf)
    (λ x m. c.put_changes_one_chunk.ensures.kept id x m) c.look.ensures.kept c.keep.ensures.stocks c.in-Failed.ensures.added.0

pub returns-in-Memory-clause-kept : goal.returns-in-Memory-clause-kept
returns-in-Memory-clause-kept g c =
    let F = g.F.Look in
    let id = c.entry-entry.result.id.0 in
    kept_none id _ (shelf_of F.files F.place F.faults c.args.cached.now.shelf) (shelf_of F.files F.place F.faults c.look.new.self.shelf) (shelf_of F.files F.place F.faults c.keep.new.self.shelf)
    (λ x m. c.put_changes_one_chunk.ensures.kept id x m) c.look.ensures.kept c.keep.ensures.stocks c.in-Memory.ensures.added

pub returns-in-Failed-clause-stops : goal.returns-in-Failed-clause-stops
returns-in-Failed-clause-stops g c =
    let F = g.F.Look in
    let members = g.S.Store.members in
    let l = c.args.index.now in
    let i = c.args.i in
    let stores = c.args.cached.now.chain.stores in
    let entry = c.entry-entry.result in
    let s = shelf_of F.files F.place F.faults c.args.cached.now.shelf in
    let mid = shelf_of F.files F.place F.faults c.look.new.self.shelf in
    let t = shelf_of F.files F.place F.faults c.keep.new.self.shelf in
    let read = subst (λ r. IfSome r (λ b. IsListedSlice l (SomeHoldsEntry members l stores) i b.now)) c.in-Some.is c.requires.read in
    let missed = c.in-Err.ensures.absent (c.is_unfound.ensures (search rules)) in
    let unfound = look_missed l i c.requires.listed entry.id c.entry-entry.ensures.id c.args.cached.now.shelf.kind entry.size (length c.args.chunk.now) (c.look.ensures.kind ∙ c.requires.kind) c.entry-entry.ensures.size s mid t refl c.keep.ensures.stocks.never_falls missed in
    (inr (ahead_loses l i c.requires.listed entry.id c.entry-entry.ensures.id members stores c.in-Some.bytes.now read g.S.Store (λ s. g.met.S.Store.alone s) refl s t c.args.cached.now.chain refl unfound), rose_later s.faults mid.faults t.faults c.look.ensures.kept.never_falls c.in-Failed.ensures.added.1)
