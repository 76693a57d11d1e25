use Rattle.locked_shelf.specs.Endings.{EndsServing}
use Rattle.locked_shelf.specs.Listening.{GivesBack}
use Rattle.locked_shelf.proofs.serve_all.make_room.Given as goal

-- those that had ended were given back
abbrev pub invariant-rounds : goal.invariant-rounds
invariant-rounds g l = record {
  ended : GivesBack (EndsServing g.D.SharedShelf.digest g.D.SharedShelf.may g.M.Mode.writable g.L.Link.Link.tells) (g.L.Listen.state l.fn.listen) (g.L.Listen.state l.listen) l.fn.tally l.tally;
}
