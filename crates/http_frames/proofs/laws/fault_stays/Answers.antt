use Rattle.http_frames.proofs.Stood.{fault_stays}
use Rattle.http_frames.proofs.laws.fault_stays.Goals as goal

pub returns : goal.returns
returns c = record { value = fault_stays }
