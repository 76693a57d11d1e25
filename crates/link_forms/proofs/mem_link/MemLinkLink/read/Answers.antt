use Rattle.std.proofs.Common.{arith, ◌≡◌, ◌+◌, ◌<◌, ◌≤◌, length, vec_len, take, drop, ◌++◌, get_or, ap, ◌∙◌, length-take, length-drop}
use Rattle.std.proofs.lemmas.List.{take_at, take_rest}
use Rattle.link_forms.proofs.Pieces.{piece_left, reads_next}
use Rattle.link_forms.proofs.mem_link.MemLinkLink.read.Goals as goal

pub returns-clause-bytes : goal.returns-clause-bytes
returns-clause-bytes c =
    let l = c.pass_pieces.new.self in
    let p = c.in-Some.piece.now in
    let n = c.min-n.result in
    let xs = c.deref-2.result.now in
    let found = c.in-Some.ensures.lookup.3 in
    let inside : l.piece < length l.pieces.items = rw c.deref.ensures.value at found.0 in
    let here : p ≡ get_or l.pieces.items l.piece p = rw c.deref.ensures.value at (found.1 p) in
    let left : l.at < vec_len p = piece_left l.pieces.items l.piece l.at p inside here c.pass_pieces.ensures.some in
    let few : l.at + n ≤ length p.items = grind (arith, length-take, length-drop) in
    let long : length c.copy_from_slice.new.self ≡ n = grind (arith, length-take, length-drop) in
    let read : take n (c.copy_from_slice.new.self ++ drop n c.args.out.now) ≡ take n (drop l.at p.items) =
    take_at c.copy_from_slice.new.self (drop n c.args.out.now) n long ∙ c.copy_from_slice.ensures.after ∙ ap (take n) (take_rest xs l.at) ∙ ap (λ ys. take n (drop l.at ys)) c.deref-2.ensures.value in
    reads_next c.args.self.now l p n _ c.pass_pieces.ensures.kept inside here few read

pub returns-clause-end : goal.returns-clause-end
returns-clause-end c none =
    let l = c.pass_pieces.new.self in
    let p = c.in-Some.piece.now in
    let found = c.in-Some.ensures.lookup.3 in
    let inside : l.piece < length l.pieces.items = rw c.deref.ensures.value at found.0 in
    let here : p ≡ get_or l.pieces.items l.piece p = rw c.deref.ensures.value at (found.1 p) in
    let left : l.at < vec_len p = piece_left l.pieces.items l.piece l.at p inside here c.pass_pieces.ensures.some in
    absurd (grind (arith, length-take, length-drop))
