use Rattle.image_store.proofs.Views.{view_counts, one_image}
use Rattle.image_demo.proofs.cut.index_one.Goals as goal

pub returns-clause-faults : goal.returns-clause-faults
returns-clause-faults g c =
    view_counts (λ v. g.V.View.faults v) (λ v. g.V.View.held v) c.push.new.self.items c.index_view_as-views.result.0.items c.pop.new.self.items c.args.view c.in-Some.view _
    (rw c.new-views.ensures.items at c.in_default.ensures.items) c.index_view_as-views.ensures.kept c.in-Some.ensures.items c.index_view_as-views.ensures.faults

pub index_view_as-views-requires-clause-alike : goal.index_view_as-views-requires-clause-alike
index_view_as-views-requires-clause-alike g c κs lives =
    one_image (λ v. g.V.View.held v) c.push.new.self.items c.args.view (rw c.new-views.ensures.items at c.in_default.ensures.items)
