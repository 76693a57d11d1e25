use Rattle.std.proofs.Common.{◌≡◌}
use Rattle.locked_shelf.specs.Endings.{EndsServing}
use Rattle.locked_shelf.specs.Listening.{IsServing}
use Rattle.locked_shelf.proofs.serve_all.hear.Given as goal

-- some connections were taken, and some of them given back. No call on the listener has failed
abbrev pub invariant-links : goal.invariant-links
invariant-links g l = record {
  heard : IsServing (EndsServing g.D.SharedShelf.digest g.D.SharedShelf.may g.M.Mode.writable g.L.Link.Link.tells) (g.L.Listen.state l.fn.listen) (g.L.Listen.state l.listen) l.tally.pending l.tally.lacking;
  unfailed : (g.L.Listen.state l.listen).faults ≡ (g.L.Listen.state l.fn.listen).faults;
}
