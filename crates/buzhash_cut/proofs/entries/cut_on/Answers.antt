use Rattle.std.proofs.Common.{◌≡◌, IfSome, ap, subst, ◌∙◌, arith}
use Rattle.buzhash_cut.proofs.Joins.{if_both, entries_more, many_next}
use Rattle.buzhash_cut.specs.Entries.{IsCutEntry}
use Rattle.chunk_ends.specs.Sizes.{Sizes}
use Rattle.chunk_store.specs.declared.id.DigestKind.{DigestKind}
use Rattle.buzhash_cut.specs.Slicing.{IsWithin, HasRead}
use Rattle.caibx_codec.specs.Seen.{pair, pairs}
use Rattle.dsy_base.specs.Bytes.{Held}
use Rattle.buzhash_cut.proofs.entries.cut_on.Goals as goal

pub loop-at-preserved : goal.loop-at-preserved
loop-at-preserved g c =
    let inv = c.loop-at.invariant in
    let kind : DigestKind = c.args.slicer.now.kind in
    let s : Sizes = c.args.slicer.now.cutter.sizes in
    let told = (g.V.View.held c.args.view.now).bytes in
    let r = c.loop-at.slicer in
    let e = pair c.in-Ok.entry in
    let got : IfSome told (λ t. HasRead r t → IsCutEntry r.kind r.cutter.sizes t c.loop-at.at e) =
    subst (λ (h : Held). IfSome h.bytes (λ t. HasRead r t → IsCutEntry r.kind r.cutter.sizes t c.loop-at.at e)) inv.held c.in-Ok.ensures.chunk in
    let on : IfSome told (λ t. HasRead r t → HasRead c.next.new.self t) =
    subst (λ (h : Held). IfSome h.bytes (λ t. HasRead r t → HasRead c.next.new.self t)) inv.held c.in-Ok.ensures.read in
    let chunk : IfSome told (λ t. IsCutEntry kind s t c.loop-at.at e) =
    if_both told _ _ _ inv.read got (λ t h f. subst (λ (k : DigestKind). IsCutEntry k s t c.loop-at.at e) inv.kind (subst (λ (z : Sizes). IsCutEntry r.kind z t c.loop-at.at e) inv.sizes (f h))) in
    let size : (g.V.View.held c.loop-at.view).size ≡ (g.V.View.held c.args.view.now).size = ap (λ (h : Held). h.size) inv.held in
    let most : r.cutter.sizes.greatest ≡ s.greatest = ap (λ (z : Sizes). z.greatest) inv.sizes in
    let end = c.in-Ok.ensures.end in
    record {
      inside = (omega (arith, end, inv.inside), omega (arith, end));
      within = subst (IsWithin c.next.new.self) size c.in-Ok.ensures.within;
      kind = c.in-Ok.ensures.way.0 ∙ inv.kind;
      sizes = c.in-Ok.ensures.way.1 ∙ inv.sizes;
      begun = λ more. c.in-Ok.ensures.on (omega (arith, more));
      held = c.in-Ok.ensures.kept ∙ inv.held;
      faults = c.in-Ok.ensures.faults.done ∙ inv.faults;
      read = if_both told _ _ _ inv.read on (λ t h f. f h);
      few = c.in_default-add_entry.ensures.few;
      chunks = λ base all. entries_more kind s told base c.loop-at.at (pairs c.loop-at.entries.items) (pairs c.add_entry.new.entries.items) e
          c.in_default-add_entry.ensures.added end.0 (omega (arith, end)) chunk (inv.chunks base all);
    }

pub returns-in-Err-clause-many : goal.returns-in-Err-clause-many
returns-in-Err-clause-many g c = λ is all.
    let inv = c.loop-at.invariant in
    let kind : DigestKind = c.args.slicer.now.kind in
    let s : Sizes = c.args.slicer.now.cutter.sizes in
    let told = (g.V.View.held c.args.view.now).bytes in
    let r = c.loop-at.slicer in
    let e = pair c.in-Ok.entry in
    let got : IfSome told (λ t. HasRead r t → IsCutEntry r.kind r.cutter.sizes t c.loop-at.at e) =
    subst (λ (h : Held). IfSome h.bytes (λ t. HasRead r t → IsCutEntry r.kind r.cutter.sizes t c.loop-at.at e)) inv.held c.in-Ok.ensures.chunk in
    let chunk : IfSome told (λ t. IsCutEntry kind s t c.loop-at.at e) =
    if_both told _ _ _ inv.read got (λ t h f. subst (λ (k : DigestKind). IsCutEntry k s t c.loop-at.at e) inv.kind (subst (λ (z : Sizes). IsCutEntry r.kind z t c.loop-at.at e) inv.sizes (f h))) in
    if_both told _ _ _ (inv.chunks 0 all).chunks chunk (λ t p is_chunk. many_next kind s t c.loop-at.at (pairs c.loop-at.entries.items) e p is_chunk (c.in-Err.ensures.many is))
