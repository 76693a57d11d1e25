use Rattle.std.proofs.Common.{refl, arith, rules}
use Rattle.extract_plan.specs.Deal.{IsPlan}
use Rattle.worker_cases.proofs.locked_tests.fill.Goals as goal

pub filled-target-requires-clause-over : goal.filled-target-requires-clause-over
filled-target-requires-clause-over g c = λ lifetimes within.
    let plan : IsPlan c.index_of-index.result 2 c.expect-plan.result = search rules in
    record {
      dealt = record { listing = refl; entries = plan.wants.size; shards = refl };
      workers = omega (arith, plan.workers);
      cuts = plan.cuts;
      base = refl;
      tells = refl;
    }

pub filled-target-requires-clause-may : goal.filled-target-requires-clause-may
filled-target-requires-clause-may g c = λ lifetimes within e. refl
