use Rattle.std.proofs.Common.{◌≡◌, ◌-◌, ◌<◌, ◌≤◌, length, IfSome}
use Rattle.buzhash_cut.specs.Entries.{AreEntries}
use Rattle.buzhash_cut.specs.Slicing.{IsWithin, HasRead, begun_by}
use Rattle.caibx_codec.specs.Seen.{pairs}
use Rattle.buzhash_cut.proofs.worker.cut_steps.Given as goal

-- the entries are those of the chunks before `at`
abbrev pub invariant-loop-at : goal.invariant-loop-at
invariant-loop-at g l = record {
  inside : (l.at ≤ (g.V.View.held l.fn.view).size) × (l.stop ≤ (g.V.View.held l.fn.view).size);
  within : IsWithin l.slicer (g.V.View.held l.fn.view).size;
  kind : l.slicer.kind ≡ l.fn.slicer.kind;
  sizes : l.slicer.cutter.sizes ≡ l.fn.slicer.cutter.sizes;
  begun : l.at < (g.V.View.held l.fn.view).size → begun_by l.slicer ≡ l.at;
  held : g.V.View.held l.view ≡ g.V.View.held l.fn.view;
  faults : g.V.View.faults l.view ≡ g.V.View.faults l.fn.view;
  read : IfSome (g.V.View.held l.fn.view).bytes (HasRead l.slicer);
  few : length (pairs l.entries.items) ≤ 4194304;
  chunks : AreEntries l.fn.slicer.kind l.fn.slicer.cutter.sizes (g.V.View.held l.fn.view).bytes 0 (pairs l.entries.items) l.at;
}

abbrev pub decreases-loop-at : goal.decreases-loop-at
decreases-loop-at g l = (g.V.View.held l.fn.view).size - l.at
