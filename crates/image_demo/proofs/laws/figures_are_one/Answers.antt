use Rattle.std.proofs.Common.{sym, ◌∙◌}
use Rattle.image_demo.specs.Figures.{figures_of}
use Rattle.image_demo.proofs.laws.figures_are_one.Goals as goal

pub returns : goal.returns
returns c = record {
  value = λ kind number size f g one other.
      let image = c.index_is_one.ensures.value _ _ _ one.listing other.listing one.of_image other.of_image in
      let seed = c.index_is_one.ensures.value _ _ _ one.seed other.seed one.of_seed other.of_seed in
      one.are ∙ (λ i. figures_of (image i) (seed i) size) ∙ sym other.are;
}
