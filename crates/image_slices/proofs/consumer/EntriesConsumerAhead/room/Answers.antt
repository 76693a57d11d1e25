use Rattle.image_slices.proofs.consumer.EntriesConsumerAhead.room.Goals as goal

pub returns : goal.returns
returns g c = c.in_ok-room.ensures.right c.args.self.now.index.now (g.C.EntryConsumer.image c.args.self.now.taker).bytes
