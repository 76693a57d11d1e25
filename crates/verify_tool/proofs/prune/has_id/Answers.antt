use Rattle.std.proofs.Common.{◌∙◌}
use Rattle.verify_tool.proofs.Pruned.{member_of}
use Rattle.verify_tool.proofs.prune.has_id.Goals as goal

pub returns : goal.returns
returns c = record { value = c.contains.ensures ∙ member_of c.args.keep.now.keys c.args.id.now.0 }
