use Rattle.image_chop.proofs.ChoppingOn.{chopped_none}
use Rattle.std.proofs.Common.{arith, refl, subst, sym}
use Rattle.image_chop.specs.ChopProgress.{HasChopped}
use Rattle.image_chop.proofs.chopping.Chopping.new.Goals as goal

pub returns-clause-sized : goal.returns-clause-sized
returns-clause-sized g c = g.met.V.View.sized c.args.image

pub returns-clause-chopping : goal.returns-clause-chopping
returns-clause-chopping g c = λ l size room. record {
  size = size;
  at = omega arith;
  room = room;
  chopped = subst (λ s. HasChopped g.S.Store l (g.V.View.held c.args.image).bytes 0 s c.args.store) (sym c.of-first.ensures) (chopped_none g.S.Store l (g.V.View.held c.args.image).bytes c.args.store);
}
