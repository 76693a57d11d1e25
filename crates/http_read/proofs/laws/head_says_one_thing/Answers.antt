use Rattle.http_read.proofs.OneThing.{one_thing}
use Rattle.http_read.proofs.laws.head_says_one_thing.Goals as goal

pub returns : goal.returns
returns c = record { same = one_thing }
