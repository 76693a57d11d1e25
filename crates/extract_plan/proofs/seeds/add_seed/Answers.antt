use Rattle.std.proofs.Common.{◌≡◌, Some, arith, refl, length}
use Rattle.std.specs.List.{slice_get}
use Rattle.std.proofs.lemmas.Option.{slice_get_read}
use Rattle.caibx_codec.specs.Listing.{count_of}
use Rattle.extract_plan.specs.Keys.{number_of}
use Rattle.extract_plan.proofs.Finding.{found_seed}
use Rattle.extract_plan.proofs.seeds.add_seed.Goals as goal

pub returns : goal.returns
returns c =
    let m = c.index-seeds-s.result in
    let seeds = c.args.seeds.now in
    let is : slice_get seeds c.args.s ≡ Some m = slice_get_read seeds (length seeds) c.args.s m refl c.requires.seed c.index-seeds-s.is in
    let all : c.loop-i.i ≡ count_of m = omega (arith, c.count-i-end.ensures, c.loop-i-test.false, c.loop-i.auto.i-end) in
    found_seed c.args.kind (number_of c.args.numbers.now) seeds c.args.s c.loop-i.i m c.loop-i.found.wants.items c.loop-i.found.places.items
    is c.loop-i.invariant all
