use Rattle.locked_shelf.specs.Endings.{EndsServing}
use Rattle.locked_shelf.proofs.Counting.{serving_back}
use Rattle.locked_shelf.proofs.serve_all.give_one.Goals as goal

pub returns-clause-ended : goal.returns-clause-ended
returns-clause-ended g c = record {
  back = λ first h.
      serving_back (EndsServing g.D.SharedShelf.digest g.D.SharedShelf.may g.M.Mode.writable g.L.Link.Link.tells) first (g.L.Listen.state c.args.listen.now) (g.L.Listen.state c.end.new.self) c.args.tally.now.pending c.settle.new.self.pending c.args.tally.now.lacking c.settle.new.self.lacking h
      (g.L.Link.Link.state c.into_parts-link.result.0) c.into_parts-link.result.1 c.into_parts-link.ensures.ended c.end.ensures.coming c.end.ensures.ended c.end.ensures.faults c.settle.ensures.well;
  coming = c.end.ensures.coming;
  faults = c.end.ensures.faults;
  few = c.settle.ensures.few;
}
