use Rattle.std.proofs.Common.{◌∙◌, ◌++◌, [], ◌∷◌, true, ap, sym, subst}
use Rattle.cache_store.specs.Through.{Behind}
use Rattle.command_steps.proofs.InTurn.{all_last, put_last}
use Rattle.locked_proxy.specs.Chains.{IsChainOf, chain_places, maps_told}
use Rattle.proxy_command.proofs.InTurn.{alone_proxied}
use Rattle.proxy_command.proofs.serving.serve_alone.Goals as goal
use Rattle.proxy_command.specs.Reaching.{IsProxied}
use Rattle.std.specs.Prelude.{Some}

pub returns-clause-changed : goal.returns-clause-changed
returns-clause-changed g c =
    let W = g.W.Look in
    let store = g.S.Store in
    let reached = c.args.reached in
    let items = reached.chains.items in
    let rest = c.pop.new.self.items in
    let after = c.push.new.self.items in
    let over = c.serve_cached-cached.ensures in
    let old : Behind g.row.W.Denot g.row.S.Denot = record { shelf = reached.shelf; chain = c.in-Some.chain } in
    let new = c.serve_cached-cached.result.0 in
    let alike = all_last (IsChainOf store reached.shelf.kind (maps_told store.holds items) (Some (chain_places store.place items))) items rest c.in-Some.chain c.in-Some.ensures.items c.requires.chains in
    let back = put_last rest after c.into_parts-shelf.result.1 c.push.result c.unwrap.result c.unwrap.ensures c.push.ensures.items ∙ ap (λ p. rest ++ p.1 ∷ []) c.into_parts-shelf.ensures in
    let served = alone_proxied W.files W.place W.faults store old new items rest after c.in-Some.ensures.items c.requires.one back (sym alike.1.kind) (rw c.new.ensures at over.place) (rw c.new.ensures at over.changed) in
    subst (λ t. IsProxied W.files W.place store true reached.shelf t items after) (sym (ap (λ p. p.0) c.into_parts-shelf.ensures)) served
