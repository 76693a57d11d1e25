use Rattle.range_ledger.proofs.Runs.{every_run, settled_stays}
use Rattle.range_ledger.proofs.laws.every_run_is_good.Goals as goal

pub returns-clause-value : goal.returns-clause-value
returns-clause-value c = every_run

pub returns-clause-kept : goal.returns-clause-kept
returns-clause-kept c = settled_stays
