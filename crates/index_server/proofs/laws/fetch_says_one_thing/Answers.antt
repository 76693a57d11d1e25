use Rattle.index_server.proofs.OneIndex.{one_fetch}
use Rattle.index_server.proofs.laws.fetch_says_one_thing.Goals as goal

pub returns : goal.returns
returns c = record { same = one_fetch c.one_index.ensures.only c.reply_says_one_thing.ensures.same }
