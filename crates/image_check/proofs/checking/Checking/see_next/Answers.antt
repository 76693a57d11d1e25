use Rattle.image_check.proofs.Checked.{slice_right}
use Rattle.image_check.proofs.checking.Checking.see_next.Goals as goal

pub returns-in-Some-clause-right : goal.returns-in-Some-clause-right
returns-in-Some-clause-right g c =
    let told = (g.V.View.held c.args.self.now.view).bytes in
    slice_right c.args.index.now told c.args.self.now.at _ (c.in-Some.ensures.told told c.requires.ready)
