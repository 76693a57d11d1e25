use Rattle.image_chop.proofs.ChoppingOn.{chops_on}
use Rattle.image_chop.proofs.chopping.ChoppingEntryConsumer.take_next.Goals as goal

pub returns-clause-on : goal.returns-clause-on
returns-clause-on g c = λ first was. chops_on g.V.View g.S.Store c.args.index.now first c.args.self.now c.chop_next.new.self c.chop_next.result was c.chop_next.ensures.on
