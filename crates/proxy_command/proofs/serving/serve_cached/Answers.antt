use Rattle.std.proofs.Common.{ap, map}
use Rattle.chunk_proxy.specs.States.{is_sure}
use Rattle.proxy_command.proofs.InTurn.{served_by, still_told}
use Rattle.proxy_command.proofs.serving.serve_cached.Goals as goal
use Rattle.proxy_command.specs.ProxyServing.{supply}

pub returns-clause-served : goal.returns-clause-served
returns-clause-served g c =
    let W = g.W.Look in
    let store = g.S.Store in
    let state = g.L.Listen.state in
    let old = c.new-state.result in
    let new = c.serve_in_turn-served.new.desk in
    let over = c.serve_in_turn-served.ensures in
    let holds = map store.holds old.chain.stores in
    let told = still_told W.files W.never_fails store old new (ap (λ s. s.holds) over.kept) in
    let all = served_by old.chain.kind W.never_fails (state c.args.listen.now) (state c.serve_in_turn-served.new.listen) (supply (W.files old.shelf.folder) (W.files new.shelf.folder) holds) store.never_fails (is_sure W.never_fails store holds) old.chain.asks _ new.chain.asks told
    c.serve_in_turn-served.result over.end over.served over.failed over.lacking over.unfailed in
    rw c.ended.ensures (rw c.into_inner.ensures.value (rw c.new-state.ensures.value at all))
