use Rattle.store_group.proofs.Groups.{calls_bounded}
use Rattle.store_group.proofs.laws.questions_bound_calls.Goals as goal

pub returns : goal.returns
returns g c = calls_bounded
