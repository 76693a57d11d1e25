use Rattle.std.proofs.Common.{◌+◌, ap}
use Rattle.std.proofs.lemmas.Option.{IfSome_then}
use Rattle.image_store.proofs.Going.{storing_next}
use Rattle.image_store.specs.Storing.{storing_of}
use Rattle.image_store.proofs.storing.StoreProgress.put_next.Goals as goal

pub returns-clause-on : goal.returns-clause-on
returns-clause-on g c =
    let done = c.in_ok-see_next.ensures in
    let now = c.see_next.new.self in
    let a = storing_of c.args.image.now c.args.store.now c.args.self.now c.args.rooms.now in
    let b = storing_of c.see_next.new.image c.see_next.new.store (record { first = now.first; at = now.at + 1; seen = now.seen }) c.see_next.new.rooms in
    record {
      next = storing_next g.V.View g.S.Store c.args.index.now a b c.requires.storing c.requires.more (ap (λ n. n + 1) done.at) done.sees.ends.kept done.room done.sees.put;
      first = done.first;
      ends = done.sees.ends;
    }

pub see_next-requires-clause-read : goal.see_next-requires-clause-read
see_next-requires-clause-read g c = IfSome_then c.slice_among-read.result c.slice_among-read.ensures.told (λ b is. is _ c.requires.ready)
