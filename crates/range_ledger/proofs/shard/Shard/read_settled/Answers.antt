use Rattle.range_ledger.proofs.Keeps.{read_kept}
use Rattle.range_ledger.proofs.shard.Shard.read_settled.Goals as goal

pub invariant_of-self : goal.invariant_of-self
invariant_of-self g c = read_kept g.R.RunName.run c.self.inside.entries c.read.new.self c.self.invariant c.read.ensures.number c.read.ensures.kept c.read.ensures.held c.read.ensures.faults.never_falls
