use Rattle.std.proofs.Common.{length, drop, map, reverse, sym, subst, All}
use Rattle.buzhash_cut.proofs.Crews.{others_cut, first_cut, first_end, first_many, first_slices, all_of, many_of, counts_of, if_ok, if_err}
use Rattle.buzhash_cut.specs.declared.image.CutFault.TheVariants as faults
use Rattle.buzhash_cut.specs.Image.{CountsViews}
use Rattle.buzhash_cut.specs.Runs.{AreRuns}
use Rattle.caibx_codec.specs.Seen.{pairs}
use Rattle.buzhash_cut.proofs.workers.entries_by.Goals as goal

pub joined-made-requires-clause-runs : goal.joined-made-requires-clause-runs
joined-made-requires-clause-runs g c =
    subst (λ ws. All (λ w. AreRuns c.args.kind c.args.sizes.now (g.V.View.held c.in-Some.first.view) w.runs.items) ws) (sym c.deref.ensures.value)
    (others_cut g.V.View.held g.V.View.faults c.args.kind c.args.sizes.now c.args.workers.now.items c.deref_mut.result.now c.cut_all.new.workers
    (drop (length c.cut_all.new.workers) c.args.workers.now.items) c.pop.new.self.items c.in-Some.first c.args.workers.now.len c.deref_mut.ensures.value c.deref_mut.ensures.len
    c.in-Some.ensures.items c.cut_all.ensures.kept c.requires.alike
    c.cut_all.ensures.cut)

pub joined-made-requires-clause-few : goal.joined-made-requires-clause-few
joined-made-requires-clause-few g c = (first_cut g.V.View.held g.V.View.faults c.args.kind c.args.sizes.now c.args.workers.now.items c.deref_mut.result.now c.cut_all.new.workers
    (drop (length c.cut_all.new.workers) c.args.workers.now.items) c.pop.new.self.items c.in-Some.first c.args.workers.now.len c.deref_mut.ensures.value c.deref_mut.ensures.len
    c.in-Some.ensures.items c.cut_all.ensures.kept c.requires.alike
    c.cut_all.ensures.first).few

pub joined-made-requires-clause-slices : goal.joined-made-requires-clause-slices
joined-made-requires-clause-slices g c = first_slices g.V.View.held g.V.View.faults c.args.kind c.args.sizes.now c.args.workers.now.items c.deref_mut.result.now c.cut_all.new.workers
    (drop (length c.cut_all.new.workers) c.args.workers.now.items) c.pop.new.self.items c.in-Some.first c.args.workers.now.len c.deref_mut.ensures.value c.deref_mut.ensures.len
    c.in-Some.ensures.items c.cut_all.ensures.kept c.requires.alike
    c.cut_all.ensures.first

pub joined-made-requires-clause-end : goal.joined-made-requires-clause-end
joined-made-requires-clause-end g c = first_end g.V.View.held g.V.View.faults c.args.kind c.args.sizes.now c.args.workers.now.items c.deref_mut.result.now c.cut_all.new.workers
    (drop (length c.cut_all.new.workers) c.args.workers.now.items) c.pop.new.self.items c.in-Some.first c.args.workers.now.len c.deref_mut.ensures.value c.deref_mut.ensures.len
    c.in-Some.ensures.items c.cut_all.ensures.kept c.requires.alike
    c.cut_all.ensures.first

pub joined-made-requires-clause-many : goal.joined-made-requires-clause-many
joined-made-requires-clause-many g c = first_many g.V.View.held g.V.View.faults c.args.kind c.args.sizes.now c.args.workers.now.items c.deref_mut.result.now c.cut_all.new.workers
    (drop (length c.cut_all.new.workers) c.args.workers.now.items) c.pop.new.self.items c.in-Some.first c.args.workers.now.len c.deref_mut.ensures.value c.deref_mut.ensures.len
    c.in-Some.ensures.items c.cut_all.ensures.kept c.requires.alike
    c.cut_all.ensures.first

pub returns-clause-all : goal.returns-clause-all
returns-clause-all g c = if_ok c.joined-made.result _ _ (λ v all. all_of g.V.View.held g.V.View.faults c.args.kind c.args.sizes.now c.args.workers.now.items c.deref_mut.result.now c.cut_all.new.workers
    (drop (length c.cut_all.new.workers) c.args.workers.now.items) c.pop.new.self.items c.in-Some.first c.args.workers.now.len c.deref_mut.ensures.value c.deref_mut.ensures.len
    c.in-Some.ensures.items c.cut_all.ensures.kept c.requires.alike
    (pairs v.items) all) c.joined-made.ensures.all

pub returns-clause-many : goal.returns-clause-many
returns-clause-many g c = if_err c.joined-made.result _ _ (λ f many is. many_of g.V.View.held g.V.View.faults c.args.kind c.args.sizes.now c.args.workers.now.items c.deref_mut.result.now c.cut_all.new.workers
    (drop (length c.cut_all.new.workers) c.args.workers.now.items) c.pop.new.self.items c.in-Some.first c.args.workers.now.len c.deref_mut.ensures.value c.deref_mut.ensures.len
    c.in-Some.ensures.items c.cut_all.ensures.kept c.requires.alike
    (many is)) c.joined-made.ensures.many

pub returns-clause-faults : goal.returns-clause-faults
returns-clause-faults g c =
    subst (λ ws. CountsViews faults.ImageFault faults.Memory (reverse (map (λ w. g.V.View.faults w.view) c.args.workers.now.items)) (reverse (map (λ w. g.V.View.faults w.view) ws)) c.joined-made.result) (sym c.in-Ok.ensures.items)
    (counts_of g.V.View.held g.V.View.faults c.args.kind c.args.sizes.now c.args.workers.now.items c.deref_mut.result.now c.cut_all.new.workers
    (drop (length c.cut_all.new.workers) c.args.workers.now.items) c.pop.new.self.items c.in-Some.first c.args.workers.now.len c.deref_mut.ensures.value c.deref_mut.ensures.len
    c.in-Some.ensures.items c.cut_all.ensures.kept c.requires.alike c.cut_all.ensures.cut
    c.joined-made.new.first c.joined-made.result (c.joined-made.ensures.faults _ (first_cut g.V.View.held g.V.View.faults c.args.kind c.args.sizes.now c.args.workers.now.items c.deref_mut.result.now c.cut_all.new.workers
    (drop (length c.cut_all.new.workers) c.args.workers.now.items) c.pop.new.self.items c.in-Some.first c.args.workers.now.len c.deref_mut.ensures.value c.deref_mut.ensures.len
    c.in-Some.ensures.items c.cut_all.ensures.kept c.requires.alike
    c.cut_all.ensures.first).counts))
