use Rattle.image_demo.proofs.Given.{two_slices}
use Rattle.image_demo.proofs.compare.mismatch.Goals as goal

pub returns : goal.returns
returns c =
    let i = c.args.i in
    two_slices c.args.index.now c.args.made.now c.args.image.now i c.id.result c.rules.ensures c.requires.listed (c.requires.right.0.entries i c.requires.listed) (c.requires.right.1.entries i c.requires.listed) c.requires.differ c.id.ensures
