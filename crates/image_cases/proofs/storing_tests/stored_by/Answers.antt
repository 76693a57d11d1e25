use Rattle.std.proofs.Common.{[], Some, length, ap}
use Rattle.dsy_base.specs.Bytes.{Held}
use Rattle.image_cases.proofs.Alike.{alike_all}
use Rattle.image_cases.proofs.storing_tests.stored_by.Goals as goal

pub store_image-views-requires-clause-alike : goal.store_image-views-requires-clause-alike
store_image-views-requires-clause-alike g c lifetimes bounds =
    let h : Held = record { bytes = Some c.args.image.now; size = length c.args.image.now; name = [] } in
    alike_all _ _ h (λ k d lt. let is = c.views_of-views.ensures.bytes k d lt in (ap length is, ap Some is))
