use Rattle.std.proofs.Common.{[], Some, length, ap}
use Rattle.image_cases.proofs.Alike.{alike_all}
use Rattle.dsy_base.specs.Bytes.{Held}
use Rattle.image_cases.proofs.view_tests.indexed.Goals as goal

pub index_view_as-views-requires-clause-alike : goal.index_view_as-views-requires-clause-alike
index_view_as-views-requires-clause-alike g c κs lives =
    let h : Held = record { bytes = Some c.args.image.now; size = length c.args.image.now; name = [] } in
    alike_all _ _ h (λ k d lt. let is = c.views_of-views.ensures.bytes k d lt in (ap length is, ap Some is))
