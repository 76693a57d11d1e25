use Rattle.std.proofs.Common.{◌≡◌, false, subst, rules}
use Rattle.dsy_base.specs.Counts.{Rose}
use Rattle.locked_shards.proofs.Knowing.{both_true, rose_by_one}
use Rattle.locked_shards.specs.Known.{Knowledge}
use Rattle.locked_shards.proofs.locked.LockedLedger.read.Goals as goal

pub invariant_of-self : goal.invariant_of-self
invariant_of-self g c =
    let failed : c.read-read.result ≡ false = search rules in (
      c.self.invariant.0,
      c.self.invariant.1,
      c.self.invariant.2,
      λ never.
          let both = both_true g.P.View.never_fails g.R.RunName.run.tells never in
          absurd (c.read-read.ensures.only failed both.1 both.0),
      c.read-read.ensures.free,
    )

pub returns-then-not-read-clause-absent : goal.returns-then-not-read-clause-absent
returns-then-not-read-clause-absent g c = λ no was. subst (λ (w : Knowledge). Rose w.faults c.raise-self-inside.result) c.self.view_is
    (rose_by_one c.self.inside.faults c.raise-self-inside.result c.raise-self-inside.ensures.value)
