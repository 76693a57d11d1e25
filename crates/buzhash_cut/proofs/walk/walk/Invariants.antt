use Rattle.std.proofs.Common.{◌≡◌, ◌-◌, ◌≤◌, length}
use Rattle.buzhash_cut.specs.Entries.{AreEntries}
use Rattle.buzhash_cut.specs.Slicing.{IsWithin}
use Rattle.caibx_codec.specs.Seen.{pairs}
use Rattle.buzhash_cut.proofs.walk.walk.Given as goal

-- the entries are those of the chunks before `at`
abbrev pub invariant-loop-at : goal.invariant-loop-at
invariant-loop-at g l = record {
  inside : l.at ≤ l.size;
  within : IsWithin l.slicer l.size;
  kind : l.slicer.kind ≡ l.fn.slicer.kind;
  sizes : l.slicer.cutter.sizes ≡ l.fn.slicer.cutter.sizes;
  held : g.V.View.held l.view ≡ g.V.View.held l.fn.view;
  faults : g.V.View.faults l.view ≡ g.V.View.faults l.fn.view;
  few : length (pairs l.entries.items) ≤ 4194304;
  chunks : AreEntries l.fn.slicer.kind l.fn.slicer.cutter.sizes (g.V.View.held l.fn.view).bytes 0 (pairs l.entries.items) l.at;
}

abbrev pub decreases-loop-at : goal.decreases-loop-at
decreases-loop-at g l = l.size - l.at
