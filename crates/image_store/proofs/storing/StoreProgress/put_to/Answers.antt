use Rattle.image_store.proofs.Going.{goes_none}
use Rattle.image_store.specs.Storing.{storing_of}
use Rattle.image_store.proofs.storing.StoreProgress.put_to.Goals as goal

pub loop-self-init : goal.loop-self-init
loop-self-init g c = goes_none g.V.View g.S.Store c.args.index.now (storing_of c.args.image.now c.args.store.now c.args.self.now c.args.rooms.now) c.requires.storing
