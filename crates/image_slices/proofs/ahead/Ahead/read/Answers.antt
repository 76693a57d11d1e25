use Rattle.std.proofs.Common.{◌≡◌, ◌+◌, ◌≤◌, IsTrue, rules, arith, length, take, slice_range, refl, ap, sym, ◌∙◌}
use Rattle.chunk_store.specs.Digests.{digest_of}
use Rattle.chunk_store.specs.declared.id.DigestKind.{DigestKind}
use Rattle.std.proofs.lemmas.List.{with_items_is}
use Rattle.std.specs.Vec.{with_items}
use Rattle.image_slices.specs.Ahead.{TellsSlice, piece_slice}
use Rattle.image_slices.specs.declared.ahead.Ahead.{Ahead}
use Rattle.image_slices.specs.declared.ahead.Piece.{Piece}
use Rattle.image_slices.proofs.Rooms.{adds_slice, ahead_adds, fits_still, slice_read, stands_still}
use Rattle.image_slices.proofs.ahead.Ahead.read.Goals as goal

pub returns-then-not-read_named-clause-right : goal.returns-then-not-read_named-clause-right
returns-then-not-read_named-clause-right g c =
    let l = c.args.index.now in
    let a = c.args.self.now in
    let room = c.read_named.new.room in
    let kept = with_items_is a.room room (omega (arith, c.read_named.auto.room, c.deref_mut.ensures.len)) in
    let b : Ahead = record { room = with_items a.room room; pieces = a.pieces; filled = a.filled } in
    let same = c.read_named.ensures.before ∙ ap (take a.filled) c.deref_mut.ensures.value in
    let was = c.requires.right in record {
      room = fits_still l a room same was.room b kept refl refl (c.read_named.auto.room ∙ ap length c.deref_mut.ensures.value);
      slices = λ i c has. was.slices i c (stands_still l a room same was.room b kept refl i c has);
    }

pub returns-clause-right : goal.returns-clause-right
returns-clause-right g c =
    let l = c.args.index.now in
    let told = (g.V.View.held c.args.view.now).bytes in
    let a = c.args.self.now in
    let room = c.read_named.new.room in
    let listed = c.entry-listed.result in
    let done = c.read_named.ensures in
    let added = c.add_piece.ensures in
    let yes : IsTrue c.read_named.result = search rules in
    let kept = with_items_is a.room room (omega (arith, c.read_named.auto.room, c.deref_mut.ensures.len)) in
    let p : Piece = record { entry = c.args.i; at = a.filled } in
    let long : length room ≡ length a.room.items = c.read_named.auto.room ∙ ap length c.deref_mut.ensures.value in
    let fits : a.filled + listed.size ≤ length room = omega (arith, c.requires.fits.bytes, c.entry-listed.ensures.size, long) in
    let named = ap (λ (k : DigestKind). digest_of k (slice_range room a.filled (a.filled + listed.size))) (sym c.kind.ensures) ∙ done.named yes ∙ c.entry-listed.ensures.id in
    ahead_adds l (TellsSlice l told) c.args.i (piece_slice l room p) a c.add_piece.new.self
    (adds_slice l a room (done.before ∙ ap (take a.filled) c.deref_mut.ensures.value) c.requires.right.room c.add_piece.new.self p (added.kept ∙ kept) added.pieces c.requires.fits.above
    (omega (arith, added.filled)) (omega (arith, added.filled, fits))
    (record { listed = c.requires.listed; fits = omega (arith, added.filled, c.entry-listed.ensures.size) }))
    (slice_read l told c.args.i room a.filled listed.start listed.size c.entry-listed.ensures.start c.entry-listed.ensures.size c.entry-listed.ensures.end fits named (done.bytes yes))
    c.requires.right
