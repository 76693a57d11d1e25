use Rattle.std.proofs.Common.{◌≡◌, All, ap, map, sym, subst, ◌∙◌}
use Rattle.caibx_codec.specs.Listing.{image_length}
use Rattle.dsy_base.specs.Counts.{CountsFaults}
use Rattle.image_slices.specs.Consumers.{IsAlike}
use Rattle.image_check.proofs.Checked.{checking_all, checks_none}
use Rattle.image_check.specs.CheckProgress.{CheckEnds}
use Rattle.image_check.specs.declared.check.CheckFault.TheVariants as check
use Rattle.image_check.proofs.check.check_beside.Goals as goal

pub take_slices-checking-requires-clause-size : goal.take_slices-checking-requires-clause-size
take_slices-checking-requires-clause-size g c = λ lifetimes bounds. subst (λ v. image_length c.args.index.now ≡ (g.V.View.held v).size) (sym c.new-checking.ensures.view) c.requires.size

pub take_slices-checking-requires-clause-going : goal.take_slices-checking-requires-clause-going
take_slices-checking-requires-clause-going g c = λ lifetimes bounds. c.new-checking.ensures.checking c.args.index.now c.requires.size c.requires.room

pub take_slices-checking-requires-clause-alike : goal.take_slices-checking-requires-clause-alike
take_slices-checking-requires-clause-alike g c = λ lifetimes bounds.
    subst (λ v. All (IsAlike (g.V.View.held v)) (map g.V.View.held c.args.others.now.items)) (sym c.new-checking.ensures.view) c.requires.alike

pub returns : goal.returns
returns g c =
    let l = c.args.index.now in
    let a = c.new-checking.result in
    let b = c.take_slices-checking.result.0 in
    let r = c.take_slices-checking.result.1 in
    let done = c.take_slices-checking.ensures in
    let was = c.new-checking.ensures.view in
    let went = done.on a (checks_none g.V.View l a (c.new-checking.ensures.checking l c.requires.size c.requires.room)) in
    let size : (g.V.View.held a.view).size ≡ image_length l = ap (λ v. (g.V.View.held v).size) was ∙ sym c.requires.size in
    record {
      ends = subst (λ v. CheckEnds l (g.V.View.held v).bytes (g.V.View.held v).size r) was (checking_all g.V.View l a b r size went done.all);
      kept = ap g.V.View.held c.end.ensures ∙ went.kept ∙ ap g.V.View.held was;
      faults = subst (λ v. CountsFaults check.ImageFault check.Memory (g.V.View.faults c.args.view) (g.V.View.faults v) r) (sym c.end.ensures)
          (subst (λ v. CountsFaults check.ImageFault check.Memory (g.V.View.faults v) (g.V.View.faults b.view) r) was went.faults);
      others = done.kept;
      other_faults = done.faults;
    }
