use Rattle.std.proofs.Common.{◌≡◌, All, subst, sym}
use Rattle.slice_cases.proofs.Alike.{all_alike}
use Rattle.slice_cases.proofs.images.views_of.Goals as goal
use Rattle.slice_cases.proofs.images.views_of.Goals.{in-Good, in-Failing}

pub returns : goal.returns
returns g c = all_alike c.view_of-first.result _ _ c.view_of-first.ensures (elim c.match-others.branch [
  | in-Good w ↦ subst (λ others. All (λ v. v.view.bytes.items ≡ c.args.bytes.now) others.items) (sym w.others-is) w.good_views-others.ensures
  | in-Failing w ↦ subst (λ others. All (λ v. v.view.bytes.items ≡ c.args.bytes.now) others.items) (sym w.others-is) w.failing_views-others.ensures
])
