use Rattle.std.proofs.Common.{◌≡◌, ◌+◌, sym, ◌∙◌, arith, false, rules, Err}
use Rattle.caibx_codec.specs.Listing.{count_of}
use Rattle.image_store.specs.Putting.{is_seen}
use Rattle.image_store.proofs.Putting.{on_ok, end_at, touched_later, touched_more, put_again, put_more, put_failed, counts_since, ends_still}
use Rattle.image_store.proofs.Rooms.{room_stays}
use Rattle.image_store.proofs.Seen.{not_true, listed_before}
use Rattle.image_store.specs.declared.put_chunks.MakeFault.TheVariants as faults
use Rattle.image_store.proofs.storing.StoreProgress.see_next.Goals as goal

pub returns-in_err-is_new-clause-sees : goal.returns-in_err-is_new-clause-sees
returns-in_err-is_new-clause-sees g c =
    let memory : c.from_residual.result ≡ Err faults.Memory = search rules in
    put_failed g.V.View g.S.Store c.args.index.now c.args.self.now.at c.args.self.now.first.value c.args.image.now c.args.store.now c.args.self.now.seen c.is_new.new.seen c.from_residual.result c.requires.listed c.requires.put memory

pub returns-then-branch-clause-sees : goal.returns-then-branch-clause-sees
returns-then-branch-clause-sees g c =
    let l = c.args.index.now in
    let i = c.args.self.now.at in
    let told = (g.V.View.held c.args.image.now).bytes in
    let first = c.args.self.now.first.value in
    let now = c.args.store.now in
    let then = c.put_entry.new.store in
    let done = c.put_entry.ensures in
    let changed = c.in_ok-is_new.ensures.changed in
    let none : is_seen c.args.self.now.seen c.id-id.result.0 ≡ false = not_true _ (sym c.if-branch.true ∙ c.in_ok-is_new.ensures.found) in
    let touched = touched_more g.S.Store l told i first now c.id-id.result.0 c.id-id.ensures c.args.self.now.seen c.is_new.new.seen changed c.requires.put none then
    c.requires.listed done.changed.sends done.changed.puts done.changed.files done.changed.place done.changed.asks done.changed.queries done.store_faults.never_falls in
    record {
      put = on_ok c.put_entry.result _ _ _ (λ has same. put_more g.S.Store l told i first now c.id-id.result.0 c.id-id.ensures c.args.self.now.seen c.is_new.new.seen changed c.requires.put none then
          done.changed.puts done.changed.asks done.changed.said touched has.holds has.says) done.ok done.ok;
      ends = record {
        touched = touched_later g.S.Store l told (i + 1) first then (count_of l) (omega (arith, c.requires.listed)) touched;
        err = end_at l told i c.requires.listed c.put_entry.result done.err;
        kept = done.kept;
        image_faults = done.image_faults;
        store_faults = counts_since faults.StoreFault (g.S.Store.faults first) (g.S.Store.faults now) (g.S.Store.faults then) c.put_entry.result c.requires.put.touched.faults done.store_faults;
      };
    }

pub returns-then-branch-clause-room : goal.returns-then-branch-clause-room
returns-then-branch-clause-room g c = room_stays c.args.index.now c.args.rooms.now c.put_entry.new.chunk c.put_entry.new.room c.requires.room
    (omega (arith, c.put_entry.auto.chunk, c.deref_mut.ensures.len)) (omega (arith, c.put_entry.auto.room, c.deref_mut-then-branch.ensures.len))
    (omega (arith, c.put_entry.auto.chunk, c.deref_mut.ensures.len)) (omega (arith, c.put_entry.auto.room, c.deref_mut-then-branch.ensures.len))

pub returns-clause-sees : goal.returns-clause-sees
returns-clause-sees g c =
    let l = c.args.index.now in
    let i = c.args.self.now.at in
    let first = c.args.self.now.first.value in
    let now = c.args.store.now in
    let before = listed_before l i c.id-id.result.0 c.args.self.now.seen c.id-id.ensures (sym c.if-branch.false ∙ c.in_ok-is_new.ensures.found) c.requires.put.seen_are in
    record {
      put = put_again g.S.Store l (g.V.View.held c.args.image.now).bytes i first now c.id-id.result.0 c.id-id.ensures c.args.self.now.seen c.is_new.new.seen c.in_ok-is_new.ensures.changed c.requires.put before;
      ends = ends_still g.V.View g.S.Store l i first c.args.image.now now (omega (arith, c.requires.listed)) c.requires.put.touched;
    }
