use Rattle.read_ahead.proofs.Readings.{all_went}
use Rattle.read_ahead.proofs.rounds.take_all.Goals as goal

pub returns-in-Ok-clause-readers : goal.returns-in-Ok-clause-readers
returns-in-Ok-clause-readers g c = λ firsts was. all_went g.V.Reader firsts c.args.readers.now c.take_by_rounds.new.readers c.take_by_rounds.ensures.readers was
