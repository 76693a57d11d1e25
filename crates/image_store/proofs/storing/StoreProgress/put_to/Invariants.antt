use Rattle.std.proofs.Common.{◌-◌, Ok}
use Rattle.image_store.specs.Storing.{GoesOn, storing_of}
use Rattle.image_store.proofs.storing.StoreProgress.put_to.Given as goal

abbrev pub invariant-loop-self : goal.invariant-loop-self
invariant-loop-self g l = GoesOn g.V.View g.S.Store l.index (storing_of l.fn.image l.fn.store l.fn.self l.fn.rooms) (storing_of l.image l.store l.self l.rooms) (Ok tt)

abbrev pub decreases-loop-self : goal.decreases-loop-self
decreases-loop-self g l = l.to - l.self.at
