use Rattle.std.proofs.Common.{◌∙◌, arith, sym}
use Rattle.proxy_command.proofs.InTurn.{shared_to, told_chains}
use Rattle.proxy_command.proofs.serving.serve_shared.Goals as goal
use Rattle.proxy_command.specs.ProxyServing.{supply}
use Rattle.proxy_command.specs.Reaching.{chain_chunks, sure_by_types}

pub returns-clause-served : goal.returns-clause-served
returns-clause-served g c =
    let W = g.W.Look in
    let store = g.S.Store in
    let state = g.L.Listen.state in
    let reached = c.args.reached in
    let chains = reached.chains.items in
    let over = c.serve_cache-shelf.ensures in
    let l = state c.args.listen.now in
    let m = state c.serve_cache-shelf.new.listen in
    let holds = chain_chunks store.holds chains in
    let is = told_chains store.holds chains (omega (arith, reached.chains.ok.0, c.requires.some)) in
    let all = shared_to reached.shelf.kind W.never_fails l m (supply (W.files reached.shelf.folder) (W.files c.serve_cache-shelf.result.0.folder) holds) (sure_by_types W.never_fails store holds) g.L.Link.Link.tells
    (λ e. g.met.L.Listen.alike (sym (g.met.L.Listen.told c.args.listen.now).0 ∙ e)) _ is c.serve_cache-shelf.result.2 over.end over.served over.lacking over.cause in
    rw c.all_ended.ensures all
