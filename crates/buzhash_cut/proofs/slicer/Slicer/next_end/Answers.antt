use Rattle.std.proofs.Common.{◌≡◌, ℕ, ◌+◌, ◌-◌, ◌≤◌, drop, slice_range, subst, sym, arith}
use Rattle.buzhash_cut.proofs.Joins.{if_both, if_one}
use Rattle.buzhash_cut.proofs.Pieces.{cut_last}
use Rattle.chunk_ends.specs.Cuts.{IsCut}
use Rattle.chunk_ends.specs.Sizes.{Sizes}
use Rattle.buzhash_cut.specs.Slicing.{HasRead, begun_by}
use Rattle.buzhash_cut.proofs.slicer.Slicer.next_end.Goals as goal

-- the last chunk ends with the image
pub returns-clause-cut : goal.returns-clause-cut
returns-clause-cut g c =
    let r = c.loop-self.self in
    let inv = c.loop-self.invariant in
    let e : ℕ = c.in-Some-finish.end in
    let le : r.start ≤ r.at = omega (arith, inv.within.given) in
    if_both (g.V.View.held c.args.view.now).bytes _ _ _ inv.read (g.met.V.View.sized c.args.view.now) (λ t on long far.
    let h : HasRead r t = on far in
    let here = cut_last r.cutter.sizes t r.start r.at r.cutter.begun e le (omega (arith, long)) (c.in-Some-finish.ensures.cut (slice_range t r.start r.at) h.fed) in
    subst (λ (b : ℕ). IsCut c.args.self.now.cutter.sizes (drop b t) (r.start + e - b)) inv.begun
    (subst (λ (s : Sizes). IsCut s (drop (begun_by r) t) (r.start + e - begun_by r)) inv.sizes here))

-- its bytes are kept
pub returns-clause-chunk : goal.returns-clause-chunk
returns-clause-chunk g c =
    let r = c.loop-self.self in
    let inv = c.loop-self.invariant in
    let e : ℕ = c.in-Some-finish.end in
    let last : r.start + e ≡ r.at = omega (arith, inv.within.given, c.in-Some-finish.ensures.end) in
    if_one (g.V.View.held c.args.view.now).bytes _ _ inv.read (λ t on far.
    let h : HasRead r t = on far in
    subst (λ (b : ℕ). slice_range r.chunk.items 0 (r.start + e - b) ≡ slice_range t b (r.start + e)) inv.begun
    (subst (λ (e : ℕ). slice_range r.chunk.items 0 (e - begun_by r) ≡ slice_range t (begun_by r) e) (sym last) h.chunk))
