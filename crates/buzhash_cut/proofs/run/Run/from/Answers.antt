use Rattle.std.proofs.Common.{ap, sym, ◌∙◌, arith}
use Rattle.buzhash_cut.proofs.Joins.{run_after}
use Rattle.caibx_codec.specs.declared.index.Entry.{Entry}
use Rattle.buzhash_cut.proofs.run.Run.from.Goals as goal

pub returns-then-index-at : goal.returns-then-index-at
returns-then-index-at c = record {
  chunks = λ some kind s h run. run_after kind s h c.args.self.now.start c.args.at c.args.self.now.entries.items c.deref-then-index-at.result.now c.partition_point-i.result c.index.result.now
      c.deref-then-index-at.ensures.value (omega arith) (ap (λ (e : Entry). e.end) (sym c.index.ensures) ∙ c.if-index-at.true) run;
}
