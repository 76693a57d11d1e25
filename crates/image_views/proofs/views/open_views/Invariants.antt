use Rattle.std.proofs.Common.{◌≡◌, [], ◌∷◌, ◌<◌, ◌≤◌, max, vec_len, All, IsSome}
use Rattle.command_steps.specs.Uses.{Uses}
use Rattle.command_worlds.specs.Worlds.{Reads}
use Rattle.image_views.specs.Views.{IsViewOf}
use Rattle.image_views.proofs.views.open_views.Given as goal

abbrev pub invariant-loop-opened : goal.invariant-loop-opened
invariant-loop-opened g l = record {
  some : 0 < vec_len l.views;
  few : vec_len l.views ≤ l._opened;
  counted : l._opened ≤ max 1 l.count;
  opened : All (λ v. (g.F.View.View.faults v ≡ 0) × IsViewOf (g.F.Files.disk l.fn.files) l.fn.image l.size (g.F.View.View.held v)) l.views.items;
  reads : Reads (g.F.Files.disk l.fn.files) (g.F.Files.disk l.files);
  used : Uses (l.fn.image ∷ []) [] (g.F.Files.disk l.fn.files) (g.F.Files.disk l.files);
  known : All (λ v. IsSome ((g.F.Files.disk l.files).file_counts (g.F.View.View.held v).name)) l.views.items;
}
