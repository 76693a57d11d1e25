use Rattle.std.proofs.Common.{arith, sym, subst}
use Rattle.chunk_dealing.proofs.Owners.{dealt_still}
use Rattle.cache_fill.proofs.Progress.{filled_looked}
use Rattle.chunk_dealing.specs.Dealing.{AsksOwn, owner_of}
use Rattle.cache_fill.proofs.filling.Filling.new.Goals as goal

pub returns-clause-filling : goal.returns-clause-filling
returns-clause-filling g c = record {
  at = omega arith;
  room = c.requires.inside;
  kind = c.requires.kind;
  unnamed = c.requires.unnamed;
  filled = filled_looked g.F.Look g.S.Store c.args.index.now c.args.first.value c.args.cached.now c.requires.looked c.requires.chain;
  dealt = subst (λ d. AsksOwn g.S.Store.asked c.args.index.now (owner_of c.as_slice.result.now) 0 0 c.args.first.value.chain d) (sym c.requires.chain) (dealt_still g.S.Store.asked g.S.Store.queried c.args.index.now (owner_of c.as_slice.result.now) 0 0 c.args.first.value.chain);
}
