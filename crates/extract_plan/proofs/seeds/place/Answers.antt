use Rattle.std.proofs.Common.{◌≡◌, ◌<◌, ℕ, List, length, slice_index, arith, rules, ap, sym, subst}
use Rattle.std.proofs.lemmas.Grind.{common_steps}
use Rattle.caibx_codec.specs.Listing.{count_of, kind_of}
use Rattle.chunk_store.specs.declared.id.DigestKind.{DigestKind}
use Rattle.extract_plan.specs.Found.{AreFound, AreNumbered}
use Rattle.extract_plan.specs.Links.{AreSorted}
use Rattle.extract_plan.specs.Keys.{number_of}
use Rattle.extract_plan.specs.Places.{IsSeedIndex}
use Rattle.extract_plan.specs.declared.keyed.Keyed.{Keyed}
use Rattle.extract_plan.specs.declared.seed.SeedPlace.{SeedPlace}
use Rattle.extract_plan.proofs.Known.{known_of}
use Rattle.extract_plan.proofs.Placing.{found_below, places_are}
use Rattle.extract_plan.proofs.seeds.place.Goals as goal

pub sort-requires-clause-within : goal.sort-requires-clause-within
sort-requires-clause-within c =
    let l = c.args.index.now in
    let plan = c.args.plan.now in
    let seeds = c.args.seeds.now in
    let number = number_of c.deref.result.now in
    let numbers_is : c.in_ok-numbers.numbers.items ≡ c.deref.result.now = first_of (search rules, grind (arith, common_steps)) in
    let numbered : AreNumbered l (count_of l) number plan.want_of =
    subst (λ (x : List Keyed). AreNumbered l (count_of l) (number_of x) plan.want_of) numbers_is c.in_ok-numbers.ensures.value in
    let ws = c.find.new.found.wants.items in
    let is : c.deref-2.result.now ≡ ws = first_of (search rules, grind (arith, common_steps)) in
    let below = found_below l plan.wants c.kind.result number plan.want_of seeds (length seeds) 0 ws c.find.new.found.places.items
    c.requires.plan numbered c.in_ok-find.ensures in
    λ i h.
    let inside : i < length ws = omega (arith, ap length is) in
    let low : slice_index c.deref-2.result.now i < plan.wants = subst (λ (x : List ℕ). slice_index x i < plan.wants) (sym is) (below i inside) in
    omega (arith, c.wants.ensures)

pub returns : goal.returns
returns c =
    let l = c.args.index.now in
    let plan = c.args.plan.now in
    let seeds = c.args.seeds.now in
    let number = number_of c.deref.result.now in
    let numbers_is : c.in_ok-numbers.numbers.items ≡ c.deref.result.now = first_of (search rules, grind (arith, common_steps)) in
    let numbered : AreNumbered l (count_of l) number plan.want_of =
    subst (λ (x : List Keyed). AreNumbered l (count_of l) (number_of x) plan.want_of) numbers_is c.in_ok-numbers.ensures.value in
    let ws = c.deref-2.result.now in
    let ps = c.deref-3.result.now in
    let order = c.deref-4.result.now in
    let starts = c.in_ok-starts.field-0.starts.items in
    let ws_is : c.find.new.found.wants.items ≡ ws = first_of (search rules, grind (arith, common_steps)) in
    let ps_is : c.find.new.found.places.items ≡ ps = first_of (search rules, grind (arith, common_steps)) in
    let order_is : c.in_ok-starts.field-0.order.items ≡ order = first_of (search rules, grind (arith, common_steps)) in
    let found : AreFound (kind_of l) number seeds (length seeds) 0 ws ps =
    subst (λ (x : List ℕ). AreFound (kind_of l) number seeds (length seeds) 0 x ps) ws_is
    (subst (λ (x : List SeedPlace). AreFound (kind_of l) number seeds (length seeds) 0 c.find.new.found.wants.items x) ps_is
    (subst (λ (k : DigestKind). AreFound k number seeds (length seeds) 0 c.find.new.found.wants.items c.find.new.found.places.items) c.kind.ensures c.in_ok-find.ensures)) in
    let sorted : AreSorted ws starts order plan.wants =
    subst (AreSorted ws starts order) c.wants.ensures
    (subst (λ (x : List ℕ). AreSorted ws starts x c.wants.result) order_is c.in_ok-starts.ensures) in
    let placed : IsSeedIndex l plan seeds (record { starts = starts; items = c.in_ok-items.items.items }) = record {
      size = sorted.size;
      places = places_are l plan.wants (kind_of l) number plan.want_of seeds ws ps starts order c.in_ok-items.items.items
          c.requires.plan numbered found sorted c.in_ok-items.ensures.size c.in_ok-items.ensures.value;
    } in
    record { placed = placed; known = known_of l plan seeds _ c.requires.plan placed }
