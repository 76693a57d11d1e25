use Rattle.std.proofs.Common.{◌≡◌, ◌≤◌, ◌++◌, IsSome, [], ◌∷◌, map, subst, sym}
use Rattle.std.specs.Map.{count_at}
use Rattle.command_steps.proofs.Consulted.{reads_twice}
use Rattle.command_steps.proofs.Used.{file_given, uses_twice, uses_within, within_same}
use Rattle.image_views.proofs.Viewed.{ends_read}
use Rattle.dsy_base.specs.Counts.{raised}
use Rattle.image_views.proofs.Viewed.{all_front, first_of, more_front, name_among, raised_more}
use Rattle.image_views.specs.Views.{names_of}
use Rattle.image_views.proofs.views.end_views.Goals as goal

pub loop-view-preserved : goal.loop-view-preserved
loop-view-preserved g c =
    let d = g.F.Files.disk c.args.files.now in
    let b = g.F.Files.disk c.loop-view.files in
    let e = g.F.Files.disk c.end_view.new.self in
    let held = g.F.View.View.held in
    let inv = c.loop-view.invariant in
    let rest = c.pop.new.self.items in
    let done = inv.front.0 in
    let popped : c.loop-view.views.items ≡ rest ++ c.in-Some.view ∷ [] = c.in-Some.ensures.items in
    let all = subst (λ l. l ++ done ≡ c.args.views.items) popped inv.front.1 in
    let names = names_of (map held c.args.views.items) in
    let reads = ends_read b e _ _ c.end_view.ensures.kept c.end_view.ensures.counts in
    record {
      front = (c.in-Some.view ∷ done, more_front c.args.views.items rest done c.in-Some.view all);
      known = λ k x lt. reads.known _ (all_front (λ v. IsSome (b.file_counts (held v).name)) c.loop-view.views.items rest (c.in-Some.view ∷ []) (sym popped) inv.known k x lt);
      reads = reads_twice d b e inv.reads reads;
      used = uses_twice names [] d b e inv.used
          (uses_within ((held c.in-Some.view).name ∷ []) [] names [] b e (name_among held c.args.views.items rest done c.in-Some.view all) (within_same []) (file_given _ b e _ c.end_view.ensures.counts));
      added = first_of (λ v. raised (count_at d.file_counts (held v).name) (g.F.View.View.faults v) ≤ count_at e.file_counts (held v).name) c.args.views.items rest done c.in-Some.view all (raised_more (count_at d.file_counts (held c.in-Some.view).name) (count_at b.file_counts (held c.in-Some.view).name) (count_at e.file_counts (held c.in-Some.view).name) (g.F.View.View.faults c.in-Some.view) (inv.reads.counts _) c.end_view.ensures.counts.counts.added);
    }
