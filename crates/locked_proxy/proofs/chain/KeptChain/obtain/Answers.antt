use Rattle.std.proofs.Common.{IfOk, subst}
use Rattle.chunk_proxy.specs.Obtaining.{IsRightChunk}
use Rattle.chunk_store.specs.Kinds.{kind_named}
use Rattle.chunk_store.specs.declared.id.DigestKind.{DigestKind}
use Rattle.locked_proxy.proofs.Chained.{chain_stays, named_err}
use Rattle.locked_proxy.proofs.chain.KeptChain.obtain.Goals as goal

pub invariant_of-self : goal.invariant_of-self
invariant_of-self g c =
    let e = c.obtain_from.ensures in
    (e.room, chain_stays g.S.Store (kind_named g.F.Folder.kind) g.N.ProxyName.maps g.N.ProxyName.places _ _ e.held e.places e.kind c.self.invariant.1)

pub returns-clause-ok : goal.returns-clause-ok
returns-clause-ok g c =
    subst (λ (j : DigestKind). IfOk c.obtain_from.result (λ v. IsRightChunk j c.args.id.now.0 v.items)) c.self.invariant.1.kind c.obtain_from.ensures.ok

pub returns-clause-err : goal.returns-clause-err
returns-clause-err g c =
    named_err g.S.Store.holds _ _ (kind_named g.F.Folder.kind) g.S.Store.never_fails c.args.id.now.0 g.N.ProxyName.maps c.obtain_from.result c.self.invariant.1.kind c.self.invariant.1.held c.obtain_from.ensures.err
