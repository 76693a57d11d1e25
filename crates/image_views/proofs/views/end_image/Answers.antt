use Rattle.std.proofs.Common.{◌≡◌, List, [], ◌∷◌, IsSome, All, map, subst}
use Rattle.std.specs.Map.{count_at}
use Rattle.command_steps.proofs.Consulted.{reads_twice}
use Rattle.command_steps.proofs.Used.{file_given, uses_twice, uses_within, within_same}
use Rattle.image_views.proofs.Viewed.{all_known, ends_read, names_all, raised_more}
use Rattle.image_views.specs.Views.{names_of}
use Rattle.image_views.proofs.views.end_image.Goals as goal

pub end_views-requires : goal.end_views-requires
end_views-requires g c = record { known = all_known g.F.View.View.held c.args.image.others.items (g.F.Files.disk c.args.files.now).file_counts (g.F.View.View.held c.args.image.first).name c.requires.known c.requires.named }

pub end_view-requires : goal.end_view-requires
end_view-requires g c = c.end_views.ensures.kept.known (g.F.View.View.held c.args.image.first).name c.requires.known

pub returns : goal.returns
returns g c =
    let d = g.F.Files.disk c.args.files.now in
    let b = g.F.Files.disk c.end_views.new.files in
    let e = g.F.Files.disk c.end_view.new.self in
    let held = g.F.View.View.held in
    let q = (held c.args.image.first).name in
    let n = g.F.View.View.faults c.args.image.first in
    let others = c.end_views.ensures in
    let gone = c.end_view.ensures in
    record {
      kept = reads_twice d b e others.kept (ends_read b e _ _ gone.kept gone.counts);
      used = uses_twice (q ∷ []) [] d b e
          (uses_within (names_of (map held c.args.image.others.items)) [] (q ∷ []) [] d b (names_all q (map held c.args.image.others.items) c.requires.named) (within_same []) others.used)
          (file_given q b e n gone.counts);
      added = raised_more (count_at d.file_counts q) (count_at b.file_counts q) (count_at e.file_counts q) n (others.kept.counts q) gone.counts.counts.added;
    }
