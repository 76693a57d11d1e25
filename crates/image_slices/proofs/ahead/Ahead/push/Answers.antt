use Rattle.std.proofs.Common.{◌≡◌, ◌+◌, List, ℕ, arith, length, slice_range, subst, take, ap, ◌∙◌}
use Rattle.std.proofs.lemmas.List.{with_items_is}
use Rattle.image_slices.specs.Ahead.{AddsSlice, piece_slice}
use Rattle.image_slices.specs.declared.ahead.Piece.{Piece}
use Rattle.image_slices.proofs.Rooms.{adds_first_slice}
use Rattle.image_slices.proofs.ahead.Ahead.push.Goals as goal

pub returns : goal.returns
returns c =
    let l = c.args.index.now in
    let a = c.args.self.now in
    let room = c.copy_to.new.room in
    let added = c.add_first_piece.ensures in
    let kept = with_items_is a.room room (omega (arith, c.copy_to.auto.room, c.deref_mut.ensures.len)) in
    let p : Piece = record { entry = c.args.i; at = a.filled } in
    let long : length room ≡ length a.room.items = c.copy_to.auto.room ∙ ap length c.deref_mut.ensures.value in
    let bytes : piece_slice l room p ≡ c.args.bytes.now = subst (λ (n : ℕ). slice_range room a.filled (a.filled + n) ≡ c.args.bytes.now) c.requires.size c.copy_to.ensures.bytes in
    subst (λ (b : List ℕ). AddsSlice l c.args.i b a c.add_first_piece.new.self) bytes
    (adds_first_slice l a room (c.copy_to.ensures.before ∙ ap (take a.filled) c.deref_mut.ensures.value) c.requires.right c.add_first_piece.new.self p (added.kept ∙ kept) added.pieces c.requires.fits.below
    (omega (arith, added.filled)) (omega (arith, added.filled, c.requires.fits.bytes, c.requires.size, long))
    (record { listed = c.requires.listed; fits = omega (arith, added.filled, c.requires.size) }))
