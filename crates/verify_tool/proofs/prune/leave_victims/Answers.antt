use Rattle.std.proofs.Common.{rules}
use Rattle.std.proofs.lemmas.Fn.{filter_same}
use Rattle.verify_tool.specs.Pruning.{has_id, is_victim}
use Rattle.verify_tool.proofs.prune.leave_victims.Goals as goal

pub returns : goal.returns
returns c = record { value = filter_same _ (is_victim (has_id c.args.keep.now)) _ (λ x b f' k. search rules) _ _ c.retain.ensures.filtered }
