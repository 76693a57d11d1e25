use Rattle.store_check.proofs.Looks.{looks_kept}
use Rattle.store_check.proofs.verify.verify_store_as.Goals as goal

pub returns-in-Err-Failed-clause-others : goal.returns-in-Err-Failed-clause-others
returns-in-Err-Failed-clause-others g c = looks_kept g.L.Look c.args.others.now.items

pub returns-in-Err-Memory-clause-others : goal.returns-in-Err-Memory-clause-others
returns-in-Err-Memory-clause-others g c = looks_kept g.L.Look c.args.others.now.items

pub returns-clause-others : goal.returns-clause-others
returns-clause-others g c = looks_kept g.L.Look c.args.others.now.items
