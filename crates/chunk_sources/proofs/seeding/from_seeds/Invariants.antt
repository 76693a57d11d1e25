use Rattle.std.proofs.Common.{◌≡◌}
use Rattle.chunk_sources.proofs.SeedAnswers.{Passed}
use Rattle.chunk_sources.specs.Sources.{counts_of, views_of}
use Rattle.store_chain.specs.Faults.{NoneFalls}
use Rattle.chunk_sources.proofs.seeding.from_seeds.Given as goal

abbrev pub invariant-loop-place : goal.invariant-loop-place
invariant-loop-place g l = record {
  kept : views_of g.V.View l.seeds ≡ views_of g.V.View l.fn.seeds;
  faults : NoneFalls (counts_of g.V.View l.fn.seeds) (counts_of g.V.View l.seeds);
  passed : Passed (views_of g.V.View l.fn.seeds) l.places l.id.0 l.place-index (counts_of g.V.View l.fn.seeds)
      (counts_of g.V.View l.seeds);
}
