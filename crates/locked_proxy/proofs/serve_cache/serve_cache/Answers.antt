use Rattle.locked_proxy.specs.Chains.{maps_told}
use Rattle.locked_proxy.specs.Replies.{EndsThrough}
use Rattle.locked_shelf.proofs.Counting.{serves_all_still, serves_some_still}
use Rattle.locked_proxy.proofs.serve_cache.serve_cache.Goals as goal

pub returns-in-Err-Failed-clause-served : goal.returns-in-Err-Failed-clause-served
returns-in-Err-Failed-clause-served g c = λ s h.
    serves_all_still (EndsThrough c.args.cache.kind (g.F.Look.files c.args.cache.folder) (maps_told g.S.Store.holds c.args.chains.items) g.F.Look.never_fails g.S.Store.never_fails g.L.Link.Link.tells) (g.L.Listen.state c.args.listen.now) (g.L.Listen.state c.bind.new.self) c.bind.ensures.coming c.bind.ensures.ended

pub returns-in-Err-Failed-clause-lacking : goal.returns-in-Err-Failed-clause-lacking
returns-in-Err-Failed-clause-lacking g c =
    serves_some_still (EndsThrough c.args.cache.kind (g.F.Look.files c.args.cache.folder) (maps_told g.S.Store.holds c.args.chains.items) g.F.Look.never_fails g.S.Store.never_fails g.L.Link.Link.tells) (g.L.Listen.state c.args.listen.now) (g.L.Listen.state c.bind.new.self) c.bind.ensures.coming c.bind.ensures.ended

pub returns-in-Err-Memory-clause-lacking : goal.returns-in-Err-Memory-clause-lacking
returns-in-Err-Memory-clause-lacking g c =
    serves_some_still (EndsThrough c.args.cache.kind (g.F.Look.files c.args.cache.folder) (maps_told g.S.Store.holds c.args.chains.items) g.F.Look.never_fails g.S.Store.never_fails g.L.Link.Link.tells) (g.L.Listen.state c.args.listen.now) (g.L.Listen.state c.bind.new.self) c.bind.ensures.coming c.bind.ensures.ended
