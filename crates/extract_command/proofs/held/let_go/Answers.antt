use Rattle.std.proofs.Common.{◌∙◌, map}
use Rattle.command_steps.proofs.Cached.{given_adds, given_reads}
use Rattle.command_steps.proofs.Consulted.{reads_twice}
use Rattle.command_steps.proofs.Given.{all_later}
use Rattle.command_groups.specs.Groups.{stores_of}
use Rattle.command_steps.specs.Cache.{with_cache}
use Rattle.chunk_sources.specs.Caches.{seen}
use Rattle.command_steps.specs.Uses.{folders_among, names_among}
use Rattle.command_steps.proofs.SeedsOpened.{all_known_later}
use Rattle.extract_command.proofs.Shelved.{known_still, same_names}
use Rattle.extract_command.proofs.Using.{back_used, kits_used}
use Rattle.extract_command.proofs.Wrote.{read_with}
use Rattle.extract_plan.specs.Seeds.{seed_held}
use Rattle.extract_command.proofs.held.let_go.Goals as goal
use Rattle.extract_command.specs.Held.{disk_with, groups_of}

pub give_cache-requires-clause-known : goal.give_cache-requires-clause-known
give_cache-requires-clause-known g c =
    let at = g.F.Files.disk in
    known_still c.args.held.cache (at c.args.files.now).folder_counts (at c.drop_kits.new.files).folder_counts c.drop_kits.ensures.kept.folder_known c.requires.given.cache

pub drop_groups-requires : goal.drop_groups-requires
drop_groups-requires g c =
    let at = g.F.Files.disk in
    let o = seen g.F.Folder.Look c.args.held.shelf in
    let gave = given_adds o (at c.drop_kits.new.files) (at c.give_cache.new.files) c.give_cache.ensures.given in
    record { known = all_later (at c.args.files.now).folder_counts (at c.give_cache.new.files).folder_counts (λ q is. gave.folder_known q (c.drop_kits.ensures.kept.folder_known q is)) (stores_of (groups_of g.F.Look.Look c.args.held)) c.requires.given.stores }

pub close_seeds-requires : goal.close_seeds-requires
close_seeds-requires g c =
    let at = g.F.Files.disk in
    let o = seen g.F.Folder.Look c.args.held.shelf in
    let gave = given_adds o (at c.drop_kits.new.files) (at c.give_cache.new.files) c.give_cache.ensures.given in
    record { known = all_known_later g.F.View.View.held (at c.args.files.now).file_counts (at c.drop_groups.new.files).file_counts (λ q is. c.drop_groups.ensures.kept.known q (gave.known q (c.drop_kits.ensures.kept.known q is))) c.args.held.seeds.items c.requires.given.seeds }

pub returns : goal.returns
returns g c =
    let at = g.F.Files.disk in
    let o = seen g.F.Folder.Look c.args.held.shelf in
    let d' = at c.args.files.now in
    let a' = at c.drop_kits.new.files in
    let d = disk_with g.F.Folder.Look c.args.held d' in
    let a = with_cache o a' in
    let b = at c.give_cache.new.files in
    let e = at c.drop_groups.new.files in
    let f = at c.close_seeds.new.files in
    let gave = given_reads o a' b c.give_cache.ensures.given in
    let groups = groups_of g.F.Look.Look c.args.held in
    let names = names_among (map (seed_held g.F.View.View.held) c.args.held.seeds.items) in
    record {
      kept = reads_twice d a f (read_with o d' a' c.drop_kits.ensures.kept) (reads_twice a e f (reads_twice a b e gave c.drop_groups.ensures.kept) c.close_seeds.ensures.kept);
      used = λ images named. kits_used images c.args.held.cache groups names d' a' f named.seeds (c.drop_kits.ensures.used images (folders_among (stores_of groups)) named.kits)
          (back_used o c.args.held.cache groups names a' b e f (same_names g.F.Folder.Look c.args.held.shelf ∙ c.requires.given.named) c.give_cache.ensures.given c.drop_groups.ensures.used c.close_seeds.ensures.used);
    }
