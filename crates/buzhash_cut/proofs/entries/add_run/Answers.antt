use Rattle.buzhash_cut.proofs.Joins.{linked_last}
use Rattle.buzhash_cut.specs.Entries.{IsStep}
use Rattle.buzhash_cut.proofs.entries.add_run.Goals as goal

pub returns-clause-end : goal.returns-clause-end
returns-clause-end c = λ greatest start end steps. linked_last (IsStep greatest) start end c.args.run.now _ c.requires.some steps
