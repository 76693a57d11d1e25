use Rattle.image_store.proofs.Going.{goes_on}
use Rattle.image_store.proofs.storing.StoringEntryConsumer.take_next.Goals as goal

pub returns-clause-on : goal.returns-clause-on
returns-clause-on g c = λ first was. goes_on g.V.View g.S.Store c.args.index.now first c.args.self.now c.put_next.new.self c.put_next.result was c.put_next.ensures.on
