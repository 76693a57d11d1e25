use Rattle.cache_fill.proofs.Fetched.{rooms_back}
use Rattle.cache_fill.proofs.want_reader.WantReaderReaderAhead.read_item.Goals as goal

pub returns-clause-same : goal.returns-clause-same
returns-clause-same g c = λ a is.
    rooms_back g.S.Store.members c.args.self.now.index.now c.fetch.new.self.index.now c.args.self.now.chain.stores c.fetch.new.self.chain.stores c.fetch.ensures.index c.fetch.ensures.members a is
