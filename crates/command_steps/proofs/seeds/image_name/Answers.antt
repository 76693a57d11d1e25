use Rattle.command_steps.proofs.SeedsRead.{whole_name}
use Rattle.command_steps.proofs.seeds.image_name.Goals as goal

pub returns-in-None : goal.returns-in-None
returns-in-None c = whole_name c.args.index.now c.in-None.ensures.cases
