use Rattle.std.proofs.Common.{◌≡◌, ⊎_elim, None, subst, get_or, arith, rules}
use Rattle.std.proofs.lemmas.List.{get_or-map, length-map}
use Rattle.std.proofs.Math.Seq.{map-set_same}
use Rattle.chunk_sources.proofs.SeedAnswers.{rose_at, none_falls, failed_at, given_at, never_falls}
use Rattle.chunk_sources.specs.Sources.{GivesAt, views_of}
use Rattle.extract_plan.specs.Seeds.{faults_in, seed_held}
use Rattle.extract_plan.specs.declared.seed.SeedAnswer.TheVariants as answers
use Rattle.chunk_sources.proofs.seeding.from_seed.Goals as goal

pub returns-in-Given-clause-kept : goal.returns-in-Given-clause-kept
returns-in-Given-clause-kept g c =
    map-set_same (seed_held g.V.View.held) c.args.seeds.now c.args.place.now.seed c.seed_gives.new.seed c.index-seeds-place.result c.seed_gives.ensures.kept

pub returns-in-Given-clause-faults : goal.returns-in-Given-clause-faults
returns-in-Given-clause-faults g c =
    none_falls (faults_in g.V.View.faults) c.args.seeds.now c.args.place.now.seed c.index-seeds-place.result c.seed_gives.new.seed
    (never_falls g.V.View.faults (get_or c.args.seeds.now c.args.place.now.seed c.index-seeds-place.result).view c.seed_gives.new.seed.view c.seed_gives.result c.seed_gives.ensures.faults)

pub returns-in-Wrong-clause-kept : goal.returns-in-Wrong-clause-kept
returns-in-Wrong-clause-kept g c =
    map-set_same (seed_held g.V.View.held) c.args.seeds.now c.args.place.now.seed c.seed_gives.new.seed c.index-seeds-place.result c.seed_gives.ensures.kept

pub returns-in-Wrong-clause-faults : goal.returns-in-Wrong-clause-faults
returns-in-Wrong-clause-faults g c =
    none_falls (faults_in g.V.View.faults) c.args.seeds.now c.args.place.now.seed c.index-seeds-place.result c.seed_gives.new.seed
    (never_falls g.V.View.faults (get_or c.args.seeds.now c.args.place.now.seed c.index-seeds-place.result).view c.seed_gives.new.seed.view c.seed_gives.result c.seed_gives.ensures.faults)

pub returns-in-Wrong-clause-absent : goal.returns-in-Wrong-clause-absent
returns-in-Wrong-clause-absent g c = λ no gives.
    let seeds = c.args.seeds.now in
    let place = c.args.place.now in
    let d = c.index-seeds-place.result in
    let refused : c.seed_gives.result ≡ answers.Given → ⊥ = ⊎_elim (λ (e : c.seed_gives.result ≡ answers.Wrong) (x : c.seed_gives.result ≡ answers.Given). cc) (λ (e : c.seed_gives.result ≡ answers.Failed) (x : c.seed_gives.result ≡ answers.Given). cc) c.in-Wrong.is in
    rose_at (faults_in g.V.View.faults) seeds place.seed d c.seed_gives.new.seed c.requires.seed
    (failed_at g.V.View.held g.V.View.faults (get_or seeds place.seed d).view c.seed_gives.new.seed.view place c.args.id.now.0 c.seed_gives.new.out c.seed_gives.result refused c.seed_gives.ensures.value c.seed_gives.ensures.faults
    (subst (λ v. GivesAt v place c.args.id.now.0) (get_or-map (seed_held g.V.View.held) seeds place.seed d None c.requires.seed) gives))

pub returns-in-Given-clause-found : goal.returns-in-Given-clause-found
returns-in-Given-clause-found g c = λ _ telling.
    let seeds = c.args.seeds.now in
    let place = c.args.place.now in
    let d = c.index-seeds-place.result in
    given_at g.V.View.tells g.V.View.held g.met.V.View.told (get_or seeds place.seed d).view (views_of g.V.View seeds) place c.args.id.now.0 c.seed_gives.new.out
    (omega (arith, c.requires.seed, length-map seeds (seed_held g.V.View.held))) (get_or-map (seed_held g.V.View.held) seeds place.seed d None c.requires.seed)
    (search rules) telling
