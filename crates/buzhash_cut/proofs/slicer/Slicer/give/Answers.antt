use Rattle.std.proofs.Common.{◌≡◌, ℕ, ◌+◌, ◌-◌, ◌<◌, ◌≤◌, drop, length, slice_range, ap, subst, sym, ◌∙◌, arith}
use Rattle.std.proofs.lemmas.List.{length-take}
use Rattle.buzhash_cut.proofs.Joins.{if_one}
use Rattle.buzhash_cut.proofs.Pieces.{chunk_on, cut_in, range_none, read_on}
use Rattle.chunk_ends.specs.Cuts.{IsCut}
use Rattle.chunk_ends.specs.Feeding.{CutterKept}
use Rattle.buzhash_cut.specs.Slicing.{HasRead, begun_by}
use Rattle.std.specs.Vec.{with_items}
use Rattle.buzhash_cut.proofs.slicer.Slicer.give.Goals as goal

pub returns-in-None-clause-read : goal.returns-in-None-clause-read
returns-in-None-clause-read g c =
    let r = c.refill.new.self in
    let n : ℕ = c.feed-fed.result.taken in
    let within = c.in_ok-refill.ensures.within in
    let inside : r.from + n ≤ r.upto = omega (arith, within.left, c.feed-fed.ensures.taken, length-take (r.upto - r.from) (drop r.from c.deref.result.now)) in
    let le : r.start ≤ r.at = omega (arith, within.given) in
    let end = rw c.in-None.is at c.feed-fed.ensures.end in
    let begun : c.feed-fed.new.self.begun ≡ r.cutter.begun = end.1 in
    let few : c.feed-fed.new.self.at - r.cutter.begun < r.cutter.sizes.greatest = end.2 in
    let room : r.at + n - begun_by r ≤ r.chunk.len = omega (arith, within.chunk, within.given, within.left, inside, few, c.feed-fed.ensures.at) in
    let long : r.at + n - begun_by r ≤ length c.put.new.out = omega (arith, room, c.put.ensures.whole, c.deref_mut.ensures.len) in
    if_one (g.V.View.held c.args.view.now).bytes _ _ c.in_ok-refill.ensures.read (λ t on far.
    let h : HasRead r t = on far in
    let both = read_on t r.piece.items c.deref.result.now r.start r.at r.from r.upto n c.deref.ensures.value le inside h.left r.cutter c.feed-fed.new.self h.fed c.feed-fed.ensures.fed in
    let kept = chunk_on t r.piece.items c.deref-2.result.now r.chunk.items c.deref_mut.result.now c.put.new.out (begun_by r) r.at r.from r.upto n r.kept r.chunk.len c.deref-2.ensures.value c.deref_mut.ensures.value within.kept inside
    (omega (arith, within.left)) h.left c.put.ensures.put (drop (length c.put.new.out) r.chunk.items) room long h.chunk in
    record { fed = both.0; left = both.1; chunk = subst (λ (b : ℕ). slice_range (with_items r.chunk c.put.new.out).items 0 (r.at + n - b) ≡ slice_range t b (r.at + n)) (ap (λ (b : ℕ). r.start + b) (sym begun)) kept })

pub returns-in-Some-clause-read : goal.returns-in-Some-clause-read
returns-in-Some-clause-read g c =
    let r = c.refill.new.self in
    let n : ℕ = c.feed-fed.result.taken in
    let within = c.in_ok-refill.ensures.within in
    let inside : r.from + n ≤ r.upto = omega (arith, within.left, c.feed-fed.ensures.taken, length-take (r.upto - r.from) (drop r.from c.deref.result.now)) in
    let le : r.start ≤ r.at = omega (arith, within.given) in
    let end = rw c.in-Some.is at c.feed-fed.ensures.end in
    let begun : r.start + c.feed-fed.new.self.begun ≡ r.at + n = omega (arith, end.0, end.1, c.feed-fed.ensures.at, within.given) in
    if_one (g.V.View.held c.args.view.now).bytes _ _ c.in_ok-refill.ensures.read (λ t on far.
    let h : HasRead r t = on far in
    let both = read_on t r.piece.items c.deref.result.now r.start r.at r.from r.upto n c.deref.ensures.value le inside h.left r.cutter c.feed-fed.new.self h.fed c.feed-fed.ensures.fed in
    let none : r.at + n - (r.start + c.feed-fed.new.self.begun) ≡ 0 = omega (arith, begun) in
    record { fed = both.0; left = both.1; chunk = range_none _ 0 _ none ∙ sym (range_none t (r.start + c.feed-fed.new.self.begun) (r.at + n) (sym begun)) })

pub returns-in-Some-clause-cut : goal.returns-in-Some-clause-cut
returns-in-Some-clause-cut g c =
    let r = c.refill.new.self in
    let n : ℕ = c.feed-fed.result.taken in
    let within = c.in_ok-refill.ensures.within in
    let inside : r.from + n ≤ r.upto = omega (arith, within.left, c.feed-fed.ensures.taken, length-take (r.upto - r.from) (drop r.from c.deref.result.now)) in
    let le : r.start ≤ r.at = omega (arith, within.given) in
    let cut = rw c.in-Some.is at c.feed-fed.ensures.cut in
    if_one (g.V.View.held c.args.view.now).bytes _ _ c.in_ok-refill.ensures.read (λ t on far.
    let h : HasRead r t = on far in
    let e : ℕ = r.start + c.in-Some.end in
    let here = cut_in t r.piece.items c.deref.result.now r.start r.at r.from r.upto n c.deref.ensures.value le inside h.left r.cutter.sizes r.cutter.begun c.in-Some.end (λ more. cut _ more h.fed) in
    subst (λ (start : ℕ). IsCut c.args.self.now.cutter.sizes (drop (start + c.args.self.now.cutter.begun) t) (e - (start + c.args.self.now.cutter.begun))) c.refill.ensures.same.1
    (subst (λ (k : CutterKept). IsCut k.sizes (drop (r.start + k.begun) t) (e - (r.start + k.begun))) c.refill.ensures.same.0 here))

pub returns-in-Some-clause-chunk : goal.returns-in-Some-clause-chunk
returns-in-Some-clause-chunk g c =
    let r = c.refill.new.self in
    let n : ℕ = c.feed-fed.result.taken in
    let within = c.in_ok-refill.ensures.within in
    let inside : r.from + n ≤ r.upto = omega (arith, within.left, c.feed-fed.ensures.taken, length-take (r.upto - r.from) (drop r.from c.deref.result.now)) in
    let end = rw c.in-Some.is at c.feed-fed.ensures.end in
    let few : c.in-Some.end - r.cutter.begun ≤ r.cutter.sizes.greatest = end.3 in
    let last : r.start + c.in-Some.end ≡ r.at + n = omega (arith, end.0, c.feed-fed.ensures.at, within.given) in
    let room : r.at + n - begun_by r ≤ r.chunk.len = omega (arith, within.chunk, within.given, within.left, inside, few, last) in
    let long : r.at + n - begun_by r ≤ length c.put.new.out = omega (arith, room, c.put.ensures.whole, c.deref_mut.ensures.len) in
    if_one (g.V.View.held c.args.view.now).bytes _ _ c.in_ok-refill.ensures.read (λ t on far.
    let h : HasRead r t = on far in
    let kept = chunk_on t r.piece.items c.deref-2.result.now r.chunk.items c.deref_mut.result.now c.put.new.out (begun_by r) r.at r.from r.upto n r.kept r.chunk.len c.deref-2.ensures.value c.deref_mut.ensures.value within.kept inside
    (omega (arith, within.left)) h.left c.put.ensures.put (drop (length c.put.new.out) r.chunk.items) room long h.chunk in
    let begun : begun_by r ≡ begun_by c.args.self.now = ap (λ (b : ℕ). b + r.cutter.begun) c.refill.ensures.same.1 ∙ ap (λ (k : CutterKept). c.args.self.now.start + k.begun) c.refill.ensures.same.0 in
    subst (λ (b : ℕ). slice_range (with_items r.chunk c.put.new.out).items 0 (r.start + c.in-Some.end - b) ≡ slice_range t b (r.start + c.in-Some.end)) begun
    (subst (λ (e : ℕ). slice_range (with_items r.chunk c.put.new.out).items 0 (e - begun_by r) ≡ slice_range t (begun_by r) e) (sym last) kept))
