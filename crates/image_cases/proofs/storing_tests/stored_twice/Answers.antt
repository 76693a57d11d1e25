use Rattle.std.proofs.Common.{[], None, refl}
use Rattle.dsy_base.specs.Bytes.{Held}
use Rattle.image_cases.proofs.Alike.{alike_all}
use Rattle.image_cases.proofs.storing_tests.stored_twice.Goals as goal

pub store_image-views-requires-clause-alike : goal.store_image-views-requires-clause-alike
store_image-views-requires-clause-alike g c lifetimes bounds =
    let h : Held = record { bytes = None; size = 3; name = [] } in
    alike_all _ _ h (λ k d lt. (refl, refl))
