use Rattle.std.proofs.Common.{}
use Rattle.chunk_dealing.proofs.Owners.{dealt_first}
use Rattle.chunk_dealing.specs.Dealing.{owner_of}
use Rattle.cache_fill.proofs.filling.Filling.deal.Goals as goal

pub returns-clause-filling : goal.returns-clause-filling
returns-clause-filling g c =
    let w = c.args.self.now in
    let is = c.requires.filling in
    record {
      at = is.at;
      room = is.room;
      kind = is.kind;
      unnamed = is.unnamed;
      filled = is.filled;
      dealt = dealt_first g.S.Store.asked g.S.Store.queried w.index.now (owner_of w.owners.now) (owner_of c.as_slice-self.result.now) 0 w.at c.requires.none w.first.value.chain w.cached.now.chain is.dealt;
    }
