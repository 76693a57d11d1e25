use Rattle.image_store.proofs.Seen.{seen_more}
use Rattle.image_store.proofs.put_chunks.is_new.Goals as goal

pub returns-in-Ok-clause-changed : goal.returns-in-Ok-clause-changed
returns-in-Ok-clause-changed c = λ q. seen_more c.args.id.now.0 q _ _ (c.in-Ok.ensures.updates.0 q)
