use Rattle.cache_fill.proofs.Ahead.{room_empty}
use Rattle.cache_fill.specs.Fetching.{SomeHoldsEntry}
use Rattle.cache_fill.proofs.filling.FillingConsumerAhead.room.Goals as goal

pub returns : goal.returns
returns g c =
    let w = c.args.self.now in
    room_empty w.index.now (SomeHoldsEntry g.S.Store.members w.index.now w.first.value.chain.stores) c.new.result c.new.ensures.right c.new.ensures.none
