use Rattle.std.proofs.Common.{◌≡◌, ◌++◌, ◌∷◌, [], Some, ap, length, arith}
use Rattle.std.proofs.lemmas.List.{length_push}
use Rattle.std.proofs.lemmas.List.Elements.{All-pop}
use Rattle.chunk_store.specs.Kinds.{kind_named}
use Rattle.locked_proxy.specs.Chains.{IsChainOf}
use Rattle.locked_proxy.proofs.shelf.lock_all.Goals as goal

pub new-requires : goal.new-requires
new-requires g c = record {
  named = (All-pop (IsChainOf g.S.Store (kind_named g.F.Folder.kind) g.N.ProxyName.maps g.N.ProxyName.places) c.loop-chain.chains.items c.pop.new.self.items (Some c.in-Some.chain) c.in-Some.ensures.items c.loop-chain.invariant.0).1;
}

pub loop-chain-preserved : goal.loop-chain-preserved
loop-chain-preserved g c =
    let inv = c.loop-chain.invariant in
    let all : c.loop-chain.chains.items ≡ c.pop.new.self.items ++ c.in-Some.chain ∷ [] = c.in-Some.ensures.items in (
      (All-pop (IsChainOf g.S.Store (kind_named g.F.Folder.kind) g.N.ProxyName.maps g.N.ProxyName.places) c.loop-chain.chains.items c.pop.new.self.items (Some c.in-Some.chain) all inv.0).0,
      omega (arith, c.put_back.ensures.size, ap length all, length_push c.pop.new.self.items c.in-Some.chain, inv.1),
      omega (arith, c.put_back.ensures.kept, inv.2),
      omega (arith, c.in-Some.ensures.capacity, inv.3),
    )
