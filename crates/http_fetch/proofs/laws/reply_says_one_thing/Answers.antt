use Rattle.http_fetch.proofs.OneReply.{one_reply}
use Rattle.http_fetch.proofs.laws.reply_says_one_thing.Goals as goal

pub returns : goal.returns
returns c = record { same = one_reply c.head_says_one_thing.ensures.same }
