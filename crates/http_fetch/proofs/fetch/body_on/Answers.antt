use Rattle.http_read.proofs.Streams.{receives_more}
use Rattle.http_fetch.proofs.fetch.body_on.Goals as goal

pub returns-in-Ok-Some-clause-kept : goal.returns-in-Ok-Some-clause-kept
returns-in-Ok-Some-clause-kept g c = receives_more _ _ _ c.reply_to_get.ensures.kept c.body_behind.ensures.kept
