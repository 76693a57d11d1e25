use Rattle.locked_shelf.specs.Endings.{EndsServing}
use Rattle.locked_shelf.specs.Listening.{GivesBack}
use Rattle.locked_shelf.proofs.serve_all.give_back.Given as goal

-- the first ones were given back
abbrev pub invariant-loop-ended : goal.invariant-loop-ended
invariant-loop-ended g l = record {
  ended : GivesBack (EndsServing g.D.SharedShelf.digest g.D.SharedShelf.may g.M.Mode.writable g.L.Link.Link.tells) (g.L.Listen.state l.fn.listen) (g.L.Listen.state l.listen) l.fn.tally l.tally;
}
