use Rattle.std.proofs.Common.{arith}
use Rattle.std.proofs.lemmas.Grind.{common_steps}
use Rattle.std.proofs.lemmas.Option.{IfSome_then}
use Rattle.image_slices.proofs.ahead.read_named.Goals as goal

pub returns-in-Ok-clause-bytes : goal.returns-in-Ok-clause-bytes
returns-in-Ok-clause-bytes g c = λ yes. IfSome_then (g.V.View.held c.args.view.now).bytes c.in-Ok.ensures.bytes (λ t e. grind (arith, common_steps, e))
