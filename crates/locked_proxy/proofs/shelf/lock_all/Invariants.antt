use Rattle.std.proofs.Common.{◌≡◌, ◌+◌, ◌≤◌, All, vec_capacity, vec_len}
use Rattle.chunk_store.specs.Kinds.{kind_named}
use Rattle.locked_proxy.specs.Chains.{IsChainOf}
use Rattle.locked_proxy.proofs.shelf.lock_all.Given as goal

-- the chains that are left, and the locks of the others
abbrev pub invariant-loop-chain : goal.invariant-loop-chain
invariant-loop-chain g l =
    All (IsChainOf g.S.Store (kind_named g.F.Folder.kind) g.N.ProxyName.maps g.N.ProxyName.places) l.chains.items
    × (vec_len l.chains + vec_len l.locks ≡ vec_len l.fn.chains)
    × (vec_len l.fn.chains ≤ vec_capacity l.locks)
    × (vec_len l.fn.chains ≤ vec_capacity l.chains)

abbrev pub decreases-loop-chain : goal.decreases-loop-chain
decreases-loop-chain g l = vec_len l.chains
