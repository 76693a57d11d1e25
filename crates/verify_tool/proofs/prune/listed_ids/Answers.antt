use Rattle.verify_tool.specs.Pruning.{has_id}
use Rattle.verify_tool.proofs.Kept.{listed_more}
use Rattle.verify_tool.proofs.prune.listed_ids.Goals as goal

pub loop-index-preserved : goal.loop-index-preserved
loop-index-preserved c = λ q. listed_more c.args.indexes.now c.loop-index.index-index c.index-item.result c.loop-index-test.true c.index-item.is q (has_id c.loop-index.keep q) (has_id c.add_ids.new.keep q) (c.loop-index.invariant q) (c.in_ok-add_ids.ensures.value q)
