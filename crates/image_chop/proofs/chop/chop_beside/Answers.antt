use Rattle.std.proofs.Common.{◌≡◌, All, ap, map, sym, subst, ◌∙◌}
use Rattle.caibx_codec.specs.Listing.{image_length}
use Rattle.dsy_base.specs.Counts.{CountsFaults}
use Rattle.image_chop.proofs.ChoppingOn.{chopping_all, chops_none}
use Rattle.image_chop.specs.ChopProgress.{ChoppingEnds}
use Rattle.image_chop.specs.declared.chop.ChopFault.TheVariants as faults
use Rattle.image_slices.specs.Consumers.{IsAlike}
use Rattle.image_chop.proofs.chop.chop_beside.Goals as goal

pub take_slices-chopping-requires-clause-size : goal.take_slices-chopping-requires-clause-size
take_slices-chopping-requires-clause-size g c = λ lifetimes bounds. subst (λ v. image_length c.args.index.now ≡ (g.V.View.held v).size) (sym c.new-chopping.ensures.image) c.requires.size

pub take_slices-chopping-requires-clause-going : goal.take_slices-chopping-requires-clause-going
take_slices-chopping-requires-clause-going g c = λ lifetimes bounds. c.new-chopping.ensures.chopping c.args.index.now c.requires.size c.requires.room

pub take_slices-chopping-requires-clause-alike : goal.take_slices-chopping-requires-clause-alike
take_slices-chopping-requires-clause-alike g c = λ lifetimes bounds.
    subst (λ v. All (IsAlike (g.V.View.held v)) (map g.V.View.held c.args.others.now.items)) (sym c.new-chopping.ensures.image) c.requires.alike

pub returns : goal.returns
returns g c =
    let l = c.args.index.now in
    let a = c.new-chopping.result in
    let b = c.take_slices-chopping.result.0 in
    let r = c.take_slices-chopping.result.1 in
    let store = c.args.store in
    let done = c.take_slices-chopping.ensures in
    let was = c.new-chopping.ensures.image in
    let went = done.on a (chops_none g.V.View g.S.Store l a (c.new-chopping.ensures.chopping l c.requires.size c.requires.room)) in
    let size : (g.V.View.held a.image).size ≡ image_length l = ap (λ v. (g.V.View.held v).size) was ∙ sym c.requires.size in
    let ends = chopping_all g.V.View g.S.Store l a b r store size c.new-chopping.ensures.sized went done.all (went.first ∙ c.new-chopping.ensures.first) in
    record {
      ends = subst (λ s. ChoppingEnds g.S.Store l (g.V.View.held c.args.image).bytes (g.V.View.held c.args.image).size store s r) (sym c.end-image.ensures.1)
          (subst (λ v. ChoppingEnds g.S.Store l (g.V.View.held v).bytes (g.V.View.held v).size store b.store r) was ends);
      kept = ap g.V.View.held c.end-image.ensures.0 ∙ went.kept ∙ ap g.V.View.held was;
      others = done.kept;
      image_faults = subst (λ v. CountsFaults faults.ImageFault faults.Memory (g.V.View.faults c.args.image) (g.V.View.faults v) r) (sym c.end-image.ensures.0)
          (subst (λ v. CountsFaults faults.ImageFault faults.Memory (g.V.View.faults v) (g.V.View.faults b.image) r) was went.image_faults);
      other_faults = done.faults;
    }
