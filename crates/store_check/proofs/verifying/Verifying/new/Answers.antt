use Rattle.std.proofs.Common.{refl, subst, sym}
use Rattle.dir_store.specs.Lists.{IsIdsOf}
use Rattle.std.proofs.Common.{IfSome}
use Rattle.store_check.proofs.Progress.{verifying_begins}
use Rattle.store_check.proofs.verifying.Verifying.new.Goals as goal

pub returns-clause-verifying : goal.returns-clause-verifying
returns-clause-verifying g c =
    let ids = c.args.ids.now in
    let listed = subst (λ f. IfSome (g.F.Look.files f) (λ m. IsIdsOf m ids)) (sym c.of-first.ensures) c.requires.listed in
    verifying_begins g.F.Look g.S.Sink _ listed c.requires.empty refl refl c.of-first.ensures c.of-before.ensures
