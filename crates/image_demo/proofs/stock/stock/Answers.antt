use Rattle.image_demo.proofs.Given.{stocked}
use Rattle.image_demo.proofs.stock.stock.Goals as goal

pub returns-in-Ok-clause-ok : goal.returns-in-Ok-clause-ok
returns-in-Ok-clause-ok g c =
    stocked c.args.index.now (g.V.View.held c.args.image.now).bytes (g.S.Store.holds c.args.store.now) (g.S.Store.holds c.put_chunks.new.store) c.requires.none c.put_chunks.ensures.tells c.in-Ok.ensures.ok c.put_chunks.ensures.changed
