use Rattle.std.proofs.Common.{◌≡◌, [], map, rules}
use Rattle.image_slices.proofs.Hired.{hired}
use Rattle.image_slices.proofs.entries.hire.Goals as goal

pub returns-clause-kept : goal.returns-clause-kept
returns-clause-kept g c =
    let none : c.loop-view.views.items ≡ [] = search rules in
    hired c.args.views.now.items (map (λ r. r.view) c.loop-view.readers.items) c.loop-view.views.items none c.loop-view.invariant.views
