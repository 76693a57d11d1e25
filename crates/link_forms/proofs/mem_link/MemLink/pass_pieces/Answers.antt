use Rattle.std.proofs.Common.{arith, ◌∙◌, ◌≡◌, ◌<◌, ◌≤◌, length, vec_len, refl, Some, None, slice_get}
use Rattle.std.proofs.lemmas.Option.{slice_get_read, slice_get_past}
use Rattle.link_forms.proofs.Pieces.{link_passed}
use Rattle.link_forms.proofs.mem_link.MemLink.pass_pieces.Goals as goal

pub loop-self-preserved : goal.loop-self-preserved
loop-self-preserved c =
    link_passed c.loop-self.self c.index.result.now c.len-size.result (grind arith) c.index.ensures c.len-size.ensures c.if-self-size.false ∙ c.loop-self.invariant

pub returns-then-self-size-clause-some : goal.returns-then-self-size-clause-some
returns-then-self-size-clause-some c =
    let ps = c.loop-self.self.pieces.items in
    let p = c.index.result.now in
    let inside : c.loop-self.self.piece < length ps = grind arith in
    let there : slice_get ps c.loop-self.self.piece ≡ Some p = slice_get_read ps (length ps) c.loop-self.self.piece p refl inside c.index.ensures in
    let left : c.loop-self.self.at < vec_len p = grind arith in
    rw there left

pub returns-clause-some : goal.returns-clause-some
returns-clause-some c =
    let ps = c.loop-self.self.pieces.items in
    let past : length ps ≤ c.loop-self.self.piece = grind arith in
    let none : slice_get ps c.loop-self.self.piece ≡ None = slice_get_past ps c.loop-self.self.piece past in
    rw none tt
