use Rattle.image_reader.proofs.Steps.{kept_on, missed_on, misses_are, misses_on}
use Rattle.image_reader.proofs.laws.steps_add_up.Goals as goal

pub returns-clause-kept : goal.returns-clause-kept
returns-clause-kept c = kept_on

pub returns-clause-asks : goal.returns-clause-asks
returns-clause-asks c = misses_on

pub returns-clause-missed : goal.returns-clause-missed
returns-clause-missed c = missed_on

pub returns-clause-size : goal.returns-clause-size
returns-clause-size c = misses_are
