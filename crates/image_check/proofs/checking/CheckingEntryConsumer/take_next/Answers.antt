use Rattle.image_check.proofs.Checked.{checks_on}
use Rattle.image_check.proofs.checking.CheckingEntryConsumer.take_next.Goals as goal

pub returns-clause-on : goal.returns-clause-on
returns-clause-on g c = λ first was. checks_on g.V.View c.args.index.now first c.args.self.now c.check_next.new.self c.check_next.result was c.check_next.ensures.on
