use Rattle.std.proofs.Common.{◌≡◌, All}
use Rattle.slice_cases.proofs.images.good_views.Given as goal

abbrev pub invariant-loop-view : goal.invariant-loop-view
invariant-loop-view g l = All (λ v. v.view.bytes.items ≡ l.bytes) l.views.items
