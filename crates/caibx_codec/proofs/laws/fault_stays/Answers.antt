use Rattle.caibx_codec.proofs.Written.{fault_after, no_file_after}
use Rattle.caibx_codec.proofs.laws.fault_stays.Goals as goal

pub returns-clause-first : goal.returns-clause-first
returns-clause-first c = fault_after

pub returns-clause-only : goal.returns-clause-only
returns-clause-only c = no_file_after
