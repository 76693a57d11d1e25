use Rattle.std.proofs.Common.{codes, ◌++◌, ap, arith}
use Rattle.command_outcome.proofs.Added.{adds_within}
use Rattle.command_outcome.specs.ErrorLines.{size_text}
use Rattle.command_outcome.proofs.error_line.add_sizes.Goals as goal

pub returns : goal.returns
returns c = adds_within (codes "bad chunk sizes: " ++ size_text c.args.why) 28 c.add_both.ensures (ap (λ t. codes "bad chunk sizes: " ++ t) c.size_text.ensures.text) (omega (arith, c.size_text.ensures.size))
