use Rattle.std.proofs.Common.{None}
use Rattle.image_slices.proofs.Rooms.{empty_ahead}
use Rattle.cache_fill.specs.Fetching.{SomeHoldsEntry}
use Rattle.cache_fill.proofs.want_reader.WantReaderReaderAhead.begin.Goals as goal

pub returns : goal.returns
returns g c =
    let l = c.args.self.now.index.now in
    record { right = empty_ahead l (SomeHoldsEntry g.S.Store.members l c.args.self.now.chain.stores) c.clear.new.self (c.clear.ensures.right l None).room (c.clear.ensures.none l) }
