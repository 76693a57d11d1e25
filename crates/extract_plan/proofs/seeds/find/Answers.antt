use Rattle.std.proofs.Common.{List, ℕ, [], sym, subst}
use Rattle.extract_plan.specs.Found.{AreFound}
use Rattle.extract_plan.specs.Keys.{number_of}
use Rattle.extract_plan.specs.declared.seed.SeedPlace.{SeedPlace}
use Rattle.extract_plan.proofs.Finding.{found_none}
use Rattle.extract_plan.proofs.seeds.find.Goals as goal

pub loop-s-init : goal.loop-s-init
loop-s-init c =
    let number = number_of c.args.numbers.now in
    let seeds = c.args.seeds.now in
    subst (λ (x : List ℕ). AreFound c.args.kind number seeds 0 0 x c.args.found.now.places.items) (sym c.requires.wants)
    (subst (λ (x : List SeedPlace). AreFound c.args.kind number seeds 0 0 [] x) (sym c.requires.places) (found_none c.args.kind number seeds))
