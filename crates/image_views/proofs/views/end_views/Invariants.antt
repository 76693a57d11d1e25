use Rattle.std.proofs.Common.{◌≡◌, ◌≤◌, ◌++◌, List, [], All, IsSome, map}
use Rattle.std.specs.Map.{count_at}
use Rattle.command_worlds.specs.Worlds.{Reads}
use Rattle.command_steps.specs.Uses.{Uses}
use Rattle.image_views.specs.Views.{IfFirst, names_of}
use Rattle.dsy_base.specs.Counts.{raised}
use Rattle.image_views.proofs.views.end_views.Given as goal

-- the views are a front of these, and the first one is among them or was added
abbrev pub invariant-loop-view : goal.invariant-loop-view
invariant-loop-view g l = record {
  front : (done : List _) × (l.views.items ++ done ≡ l.fn.views.items);
  known : All (λ v. IsSome ((g.F.Files.disk l.files).file_counts (g.F.View.View.held v).name)) l.views.items;
  reads : Reads (g.F.Files.disk l.fn.files) (g.F.Files.disk l.files);
  used : Uses (names_of (map g.F.View.View.held l.fn.views.items)) [] (g.F.Files.disk l.fn.files) (g.F.Files.disk l.files);
  added : l.views.items ≡ [] → IfFirst (λ v. raised (count_at (g.F.Files.disk l.fn.files).file_counts (g.F.View.View.held v).name) (g.F.View.View.faults v)
      ≤ count_at (g.F.Files.disk l.files).file_counts (g.F.View.View.held v).name) l.fn.views.items;
}

abbrev pub decreases-loop-view : goal.decreases-loop-view
decreases-loop-view g l = goal.left-loop-view g l
