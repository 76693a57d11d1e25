use Rattle.slice_cases.proofs.Alike.{all_alike}
use Rattle.slice_cases.proofs.images.gated_views.Goals as goal

pub returns : goal.returns
returns g c = all_alike c.view_of-first.result _ _ c.view_of-first.ensures c.good_views.ensures
