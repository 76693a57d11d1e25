use Rattle.std.proofs.Common.{ℕ, Result, subst}
use Rattle.cache_store.proofs.Found.{else_held}
use Rattle.chunk_store.specs.Gets.{GetGives}
use Rattle.chunk_store.specs.declared.store.GetFault.{GetFault}
use Rattle.cache_store.proofs.shelf.judge.Goals as goal

pub returns-in-Some-clause-found : goal.returns-in-Some-clause-found
returns-in-Some-clause-found c m gives =
    let P : Result ℕ GetFault → Type 0 = λ r. GetGives (m c.args.query.now.id.0) r c.args.lent.now in
    else_held c.args.query.now m c.in-Some.shows c.in-Ok.n c.split_at.result.0.now c.args.lent.now c.split_at.ensures.front c.in-Some.ensures (subst P c.in-Ok.is gives)
