use Rattle.dsy_forms.proofs.Trees.{map_of_clone}
use Rattle.dsy_forms.proofs.named_files.copied.Goals as goal

pub returns : goal.returns
returns c = map_of_clone c.args.files.now c.in_ok-clone.field-0 c.in_ok-clone.ensures.cases
