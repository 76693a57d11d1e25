use Rattle.std.proofs.Common.{◌≡◌, ◌++◌, ◌∷◌, [], ap, sym, subst, All, length, arith}
use Rattle.std.proofs.lemmas.List.{length_push}
use Rattle.std.proofs.lemmas.List.Elements.{All-append, All-cons, All-nil}
use Rattle.chunk_store.specs.Kinds.{kind_named}
use Rattle.locked_proxy.specs.Chains.{IsChainOf}
use Rattle.locked_proxy.proofs.shelf.unlock_all.Goals as goal

pub loop-lock-preserved : goal.loop-lock-preserved
loop-lock-preserved g c =
    let inv = c.loop-lock.invariant in
    let P = IsChainOf g.S.Store (kind_named g.F.Folder.kind) g.N.ProxyName.maps g.N.ProxyName.places in
    let chain = c.into_inner-in-Some.result in
    let all : c.loop-lock.locks.items ≡ c.pop.new.self.items ++ c.in-Some.lock ∷ [] = c.in-Some.ensures.items in (
      subst (All P) (sym c.put_back.ensures.items) (All-append P c.loop-lock.chains.items (chain ∷ []) inv.0 (All-cons P chain [] c.into_inner-in-Some.ensures.named (All-nil P))),
      omega (arith, c.put_back.ensures.size, ap length all, length_push c.pop.new.self.items c.in-Some.lock, inv.1),
      omega (arith, c.put_back.ensures.kept, inv.2),
    )
