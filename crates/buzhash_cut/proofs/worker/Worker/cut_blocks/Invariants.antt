use Rattle.std.proofs.Common.{◌≡◌, ◌≤◌}
use Rattle.buzhash_cut.specs.Runs.{AreRuns}
use Rattle.buzhash_cut.specs.Slicing.{IsWithin}
use Rattle.buzhash_cut.proofs.worker.Worker.cut_blocks.Given as goal

-- each run was cut from its start on
abbrev pub invariant-loop : goal.invariant-loop
invariant-loop g l = record {
  within : IsWithin l.slicer (g.V.View.held l.fn.self.view).size;
  kind : l.slicer.kind ≡ l.fn.kind;
  sizes : l.slicer.cutter.sizes ≡ l.sizes;
  held : g.V.View.held l.self.view ≡ g.V.View.held l.fn.self.view;
  faults : g.V.View.faults l.fn.self.view ≤ g.V.View.faults l.self.view;
  runs : AreRuns l.fn.kind l.sizes (g.V.View.held l.fn.self.view) l.self.runs.items;
}
