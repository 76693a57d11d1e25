use Rattle.std.proofs.Common.{◌≡◌, ℕ, List, map, reverse, ap, sym, subst, ◌∙◌, IfSome}
use Rattle.buzhash_cut.proofs.Crews.{if_ok}
use Rattle.buzhash_cut.proofs.Views.{all_views, alike_by, seen_by}
use Rattle.buzhash_cut.specs.declared.image.CutFault.TheVariants as faults
use Rattle.buzhash_cut.specs.Image.{CountsViews, IndexGiven}
use Rattle.caibx_codec.specs.Listing.{image_length}
use Rattle.buzhash_cut.proofs.image.index_view_as.Goals as goal

pub index_by-made-requires-clause-alike : goal.index_by-made-requires-clause-alike
index_by-made-requires-clause-alike g c κs lives = alike_by (λ v. g.V.View.held v) (λ w. w.view) c.args.views.items c.hire.new.workers.items c.hire.ensures.views c.requires.alike

pub returns-clause-exactly : goal.returns-clause-exactly
returns-clause-exactly g c =
    all_views (λ v. g.V.View.held v) (λ w. w.view) c.args.views.items c.hire.new.workers.items (λ h. IfSome h.bytes (λ t. IndexGiven c.args.kind c.args.sizes.now t c.index_by-made.result)) c.hire.ensures.views c.index_by-made.ensures.exactly

pub returns-clause-size : goal.returns-clause-size
returns-clause-size g c = if_ok c.index_by-made.result _ _
    (λ l. all_views (λ v. g.V.View.held v) (λ w. w.view) c.args.views.items c.hire.new.workers.items (λ h. image_length l ≡ h.size) c.hire.ensures.views) c.index_by-made.ensures.size

pub returns-clause-kept : goal.returns-clause-kept
returns-clause-kept g c =
    seen_by (λ v. g.V.View.held v) (λ w. w.view) c.dismiss.new.views.items c.index_by-made.new.workers.items c.dismiss.ensures.views
    ∙ ap reverse c.index_by-made.ensures.kept
    ∙ sym (seen_by (λ v. g.V.View.held v) (λ w. w.view) c.args.views.items c.hire.new.workers.items c.hire.ensures.views)

pub returns-clause-faults : goal.returns-clause-faults
returns-clause-faults g c =
    subst (λ (old : List ℕ). CountsViews faults.ImageFault faults.Memory old (map (λ v. g.V.View.faults v) c.dismiss.new.views.items) c.index_by-made.result)
    (sym (seen_by (λ v. g.V.View.faults v) (λ w. w.view) c.args.views.items c.hire.new.workers.items c.hire.ensures.views))
    (subst (λ (new : List ℕ). CountsViews faults.ImageFault faults.Memory (reverse (map (λ w. g.V.View.faults w.view) c.hire.new.workers.items)) new c.index_by-made.result)
    (sym (seen_by (λ v. g.V.View.faults v) (λ w. w.view) c.dismiss.new.views.items c.index_by-made.new.workers.items c.dismiss.ensures.views)) c.index_by-made.ensures.faults)
