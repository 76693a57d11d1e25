use Rattle.chunk_proxy.proofs.Sought.{answered, lacking}
use Rattle.chunk_proxy.proofs.Stepped.{err_more, ok_more, lost_stands, put_stands}
use Rattle.chunk_proxy.specs.Leaving.{asks_none}
use Rattle.chunk_server.specs.declared.chunk_file.ReadMethod.TheVariants as method
use Rattle.chunk_proxy.proofs.state.ProxyState.answer.Goals as goal

pub returns-in-Get-clause-ok : goal.returns-in-Get-clause-ok
returns-in-Get-clause-ok g c =
    rw (c.in-Get.is, ← c.self.view_is)
    (ok_more c.fetch.result (λ r h. answered g.F.Look.files g.F.Look.place g.F.Look.faults g.F.Look.never_fails g.S.Store (λ f. g.met.F.Look.sure f) (λ s. g.met.S.Store.told s) (λ s. g.met.S.Store.sure s) c.put_leaves_a_temporary.ensures.named _ _ _ method.Get c.fetch.ensures.stores _ h) c.fetch.ensures.ok)

pub returns-in-Get-clause-err : goal.returns-in-Get-clause-err
returns-in-Get-clause-err g c =
    rw (c.in-Get.is, ← c.self.view_is)
    (err_more c.fetch.result (λ h. lacking g.F.Look.files g.F.Look.place g.F.Look.faults g.F.Look.never_fails g.S.Store (λ f. g.met.F.Look.sure f) (λ s. g.met.S.Store.told s) (λ s. g.met.S.Store.sure s) c.put_leaves_a_temporary.ensures.named _ _ _ method.Get c.fetch.ensures.stores h) c.fetch.ensures.err)

pub returns-in-Head-clause-ok : goal.returns-in-Head-clause-ok
returns-in-Head-clause-ok g c =
    rw (c.in-Head.is, ← c.self.view_is)
    (ok_more c.fetch-in-Head.result (λ r h. answered g.F.Look.files g.F.Look.place g.F.Look.faults g.F.Look.never_fails g.S.Store (λ f. g.met.F.Look.sure f) (λ s. g.met.S.Store.told s) (λ s. g.met.S.Store.sure s) c.put_leaves_a_temporary.ensures.named _ _ _ method.Head c.fetch-in-Head.ensures.stores _ h) c.fetch-in-Head.ensures.ok)

pub returns-in-Head-clause-err : goal.returns-in-Head-clause-err
returns-in-Head-clause-err g c =
    rw (c.in-Head.is, ← c.self.view_is)
    (err_more c.fetch-in-Head.result (λ h. lacking g.F.Look.files g.F.Look.place g.F.Look.faults g.F.Look.never_fails g.S.Store (λ f. g.met.F.Look.sure f) (λ s. g.met.S.Store.told s) (λ s. g.met.S.Store.sure s) c.put_leaves_a_temporary.ensures.named _ _ _ method.Head c.fetch-in-Head.ensures.stores h) c.fetch-in-Head.ensures.err)

pub returns-in-Put-clause-ok : goal.returns-in-Put-clause-ok
returns-in-Put-clause-ok g c =
    rw c.in-Put.is (put_stands _ _ _ (g.F.Look.files c.args.self.now.shelf.folder) c.args.self.now.chain.asks _ _ c.bare.ensures)

pub returns-in-Lost-clause-ok : goal.returns-in-Lost-clause-ok
returns-in-Lost-clause-ok g c =
    rw c.in-Lost.is (lost_stands _ _ (g.F.Look.files c.args.self.now.shelf.folder) c.args.self.now.chain.asks _ _ c.bare-in-Lost.ensures)

pub returns-in-Put-clause-asks : goal.returns-in-Put-clause-asks
returns-in-Put-clause-asks g c = asks_none g.S.Store c.args.self.now.chain.stores

pub returns-in-Lost-clause-asks : goal.returns-in-Lost-clause-asks
returns-in-Lost-clause-asks g c = asks_none g.S.Store c.args.self.now.chain.stores
