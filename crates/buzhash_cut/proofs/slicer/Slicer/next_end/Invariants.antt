use Rattle.std.proofs.Common.{◌≡◌, ◌-◌, IfSome}
use Rattle.buzhash_cut.specs.Slicing.{IsWithin, HasRead, begun_by}
use Rattle.buzhash_cut.proofs.slicer.Slicer.next_end.Given as goal

-- the chunk that began is open still
abbrev pub invariant-loop-self : goal.invariant-loop-self
invariant-loop-self g l = record {
  within : IsWithin l.self l.size;
  kind : l.self.kind ≡ l.fn.self.kind;
  sizes : l.self.cutter.sizes ≡ l.fn.self.cutter.sizes;
  begun : begun_by l.self ≡ begun_by l.fn.self;
  held : g.V.View.held l.view ≡ g.V.View.held l.fn.view;
  faults : g.V.View.faults l.view ≡ g.V.View.faults l.fn.view;
  read : IfSome (g.V.View.held l.fn.view).bytes (λ t. HasRead l.fn.self t → HasRead l.self t);
}

abbrev pub decreases-loop-self : goal.decreases-loop-self
decreases-loop-self g l = l.size - l.self.at
