use Rattle.std.proofs.Common.{◌<◌, ◌-◌, length, slice_index_or, ap, sym, refl, subst, ◌∙◌, arith}
use Rattle.buzhash_cut.proofs.Views.{maps_alike, said_of, sizes_alike}
use Rattle.buzhash_cut.specs.Runs.{HasCut, HasCutFirst, IsReady}
use Rattle.buzhash_cut.proofs.workers.cut_all.Goals as goal

pub for_each_mut-requires-clause-accepts : goal.for_each_mut-requires-clause-accepts
for_each_mut-requires-clause-accepts g c = λ κs lives i p lt is.
    let ws = c.args.workers.now in
    let last : length ws - 1 < length ws = omega (arith, c.requires.some) in
    let same = sizes_alike (λ w. g.V.View.held w.view) ws c.requires.alike (length ws - 1) i c.index-workers-last.result p.now last lt in
    (c.new-blocks.ensures.size ∙ c.size-size.ensures ∙ same ∙ ap (λ w. (g.V.View.held w.view).size) (sym is), subst (λ w. IsReady g.V.View.held c.args.kind c.args.sizes.now w) (sym is) (c.requires.none i p.now lt))

pub returns-clause-cut : goal.returns-clause-cut
returns-clause-cut g c = λ k d lt.
    let p = (c.for_each_mut.ensures k d lt).1 in
    said_of (λ x y. HasCut g.V.View.held g.V.View.faults c.args.kind c.args.sizes.now x y) p.argument.now p.after_call.now (slice_index_or c.args.workers.now k d) (slice_index_or c.for_each_mut.new.s k d) p.argument_is p.left p.call.0

pub returns-clause-first : goal.returns-clause-first
returns-clause-first g c = λ d.
    let last : length c.args.workers.now - 1 < length c.args.workers.now = omega (arith, c.requires.some) in
    let p = (c.for_each_mut.ensures (length c.args.workers.now - 1) d last).1 in
    said_of (λ x y. HasCutFirst g.V.View.held g.V.View.faults c.args.kind c.args.sizes.now x y) p.argument.now p.after_call.now (slice_index_or c.args.workers.now (length c.args.workers.now - 1) d)
    (slice_index_or c.for_each_mut.new.s (length c.args.workers.now - 1) d) p.argument_is p.left (p.call.1 refl)

pub returns-clause-kept : goal.returns-clause-kept
returns-clause-kept g c =
    maps_alike (λ w. g.V.View.held w.view) c.args.workers.now c.for_each_mut.new.s c.for_each_mut.auto.s (λ k d lt.
    let p = (c.for_each_mut.ensures k d lt).1 in
    ap (λ w. g.V.View.held w.view) (sym p.left) ∙ p.call.0.kept ∙ ap (λ w. g.V.View.held w.view) p.argument_is)
