use Rattle.std.proofs.Common.{◌≡◌, ◌+◌, ◌≤◌, All, vec_capacity, vec_len}
use Rattle.chunk_store.specs.Kinds.{kind_named}
use Rattle.locked_proxy.specs.Chains.{IsChainOf}
use Rattle.locked_proxy.proofs.shelf.unlock_all.Given as goal

-- the locks that are left, and the chains of the others
abbrev pub invariant-loop-lock : goal.invariant-loop-lock
invariant-loop-lock g l =
    All (IsChainOf g.S.Store (kind_named g.F.Folder.kind) g.N.ProxyName.maps g.N.ProxyName.places) l.chains.items
    × (vec_len l.locks + vec_len l.chains ≡ vec_len l.fn.locks)
    × (vec_len l.fn.locks ≤ vec_capacity l.chains)

abbrev pub decreases-loop-lock : goal.decreases-loop-lock
decreases-loop-lock g l = vec_len l.locks
