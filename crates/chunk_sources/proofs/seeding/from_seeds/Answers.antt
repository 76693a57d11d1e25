use Rattle.std.proofs.Common.{map, refl, ◌∙◌}
use Rattle.chunk_sources.proofs.SeedAnswers.{any_at, falls_on, passed_more, telling_on}
use Rattle.chunk_sources.specs.Sources.{HeldAt, views_of}
use Rattle.extract_plan.specs.Seeds.{faults_in, seed_held}
use Rattle.chunk_store.specs.declared.id.DigestKind.TheVariants as kinds
use Rattle.extract_plan.specs.declared.seed.SeedPlace.{SeedPlace}
use Rattle.chunk_sources.proofs.seeding.from_seeds.Goals as goal

pub returns-then-from_seed-clause-found : goal.returns-then-from_seed-clause-found
returns-then-from_seed-clause-found g c = λ given tells.
    let none : SeedPlace = record { seed = 0; start = 0; size = 0; kind = kinds.Sha512T256 } in
    any_at (λ p. HeldAt (views_of g.V.View c.args.seeds.now) p c.args.id.now.0) c.args.places.now c.loop-place.place-index none c.loop-place-test.true
    (rw c.loop-place.invariant.kept at (c.if-from_seed.ensures.found refl
    (telling_on g.V.View.tells (views_of g.V.View c.args.seeds.now) (views_of g.V.View c.loop-place.seeds) c.loop-place.invariant.kept tells)))

pub loop-place-preserved : goal.loop-place-preserved
loop-place-preserved g c =
    let held = seed_held g.V.View.held in
    let faults = faults_in g.V.View.faults in
    let none : SeedPlace = record { seed = 0; start = 0; size = 0; kind = kinds.Sha512T256 } in
    let old = map faults c.args.seeds.now in
    let now = map faults c.loop-place.seeds in
    let new = map faults c.from_seed.new.seeds in
    record {
      kept = c.from_seed.ensures.kept ∙ c.loop-place.invariant.kept;
      faults = falls_on old now new c.loop-place.invariant.faults c.from_seed.ensures.faults;
      passed = passed_more (map held c.args.seeds.now) (map held c.loop-place.seeds) c.args.places.now c.args.id.now.0 c.loop-place.place-index none old now new
          c.loop-place.invariant.kept c.loop-place-test.true c.loop-place.invariant.faults c.from_seed.ensures.faults c.loop-place.invariant.passed (c.if-from_seed.ensures.absent refl);
    }
