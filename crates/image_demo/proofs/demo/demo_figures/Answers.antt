use Rattle.std.proofs.Common.{ap, ◌∙◌}
use Rattle.image_demo.proofs.Given.{are_figures}
use Rattle.image_demo.specs.Images.{seed_of}
use Rattle.image_demo.proofs.demo.demo_figures.Goals as goal

pub returns : goal.returns
returns g c =
    are_figures c.args.kind c.args.number c.args.size c.in_ok-indexed.indexed.index c.in_ok-seed.seed.index c.in_ok-made.made.figures c.new.result.bytes.now c.new-2.result.bytes.now
    (c.new.ensures.bytes ∙ c.deref-2.ensures.value ∙ c.in-Ok.ensures)
    (c.new-2.ensures.bytes ∙ c.deref-3.ensures.value ∙ c.in-Ok-seed.ensures ∙ ap seed_of (c.deref.ensures.value ∙ c.in-Ok.ensures))
    c.in_ok-indexed.ensures.exactly c.in_ok-seed.ensures.exactly c.image_is_right.ensures.value c.in_ok-made.ensures.value
