use Rattle.chunk_store.proofs.Said.{keeps_on}
use Rattle.image_store.proofs.Putting.{sends_both}
use Rattle.image_store.proofs.put_chunks.keep.Goals as goal

pub returns-clause-said : goal.returns-clause-said
returns-clause-said g c = λ q other.
    keeps_on (g.S.Store.said c.args.store.now) (g.S.Store.said c.is_held.new.store) (g.S.Store.said c.put.new.self) q (c.in_ok-is_held.ensures.said q) (c.put.ensures.said q other)

pub returns-clause-sends : goal.returns-clause-sends
returns-clause-sends g c =
    sends_both c.args.id.now.0 c.args.chunk.now (g.S.Store.sent c.args.store.now) (g.S.Store.sent c.is_held.new.store) (g.S.Store.sent c.put.new.self) c.is_held.ensures.sends c.put.ensures.sends
