use Rattle.std.proofs.Common.{◌∙◌, map}
use Rattle.command_steps.proofs.Cached.{given_adds}
use Rattle.command_steps.proofs.Given.{all_later}
use Rattle.command_groups.specs.Groups.{stores_of}
use Rattle.command_steps.specs.Sources.{storage}
use Rattle.chunk_sources.specs.Caches.{seen}
use Rattle.command_steps.specs.Uses.{folders_among, names_among}
use Rattle.command_steps.proofs.SeedsOpened.{all_known_later}
use Rattle.extract_command.proofs.LentKits.{all_given_back, given_used}
use Rattle.extract_command.proofs.Shelved.{known_still, same_names}
use Rattle.extract_command.proofs.Using.{back_used, kits_used}
use Rattle.extract_plan.specs.Seeds.{seed_held}
use Rattle.extract_command.proofs.held.give_back.Goals as goal
use Rattle.extract_command.specs.Held.{groups_of}

pub give_cache-requires-clause-known : goal.give_cache-requires-clause-known
give_cache-requires-clause-known g c =
    let at = g.F.Files.disk in
    let state = g.D.Dial.state in
    let kits = all_given_back g.F.Look.Look g.F.View.View state c.args.held.kits.items (storage (at c.args.files.now) (state c.args.dial.now)) (storage (at c.close_kits.new.files) (state c.close_kits.new.dial)) c.close_kits.ensures.given in
    known_still c.args.held.cache (at c.args.files.now).folder_counts (at c.close_kits.new.files).folder_counts kits.disk.folder_known c.requires.given.cache

pub close_groups-requires : goal.close_groups-requires
close_groups-requires g c =
    let at = g.F.Files.disk in
    let state = g.D.Dial.state in
    let kits = all_given_back g.F.Look.Look g.F.View.View state c.args.held.kits.items (storage (at c.args.files.now) (state c.args.dial.now)) (storage (at c.close_kits.new.files) (state c.close_kits.new.dial)) c.close_kits.ensures.given in
    let o = seen g.F.Folder.Look c.args.held.shelf in
    let gave = given_adds o (at c.close_kits.new.files) (at c.give_cache.new.files) c.give_cache.ensures.given in
    record { known = all_later (at c.args.files.now).folder_counts (at c.give_cache.new.files).folder_counts (λ q is. gave.folder_known q (kits.disk.folder_known q is)) (stores_of (groups_of g.F.Look.Look c.args.held)) c.requires.given.stores }

pub close_seeds-requires : goal.close_seeds-requires
close_seeds-requires g c =
    let at = g.F.Files.disk in
    let state = g.D.Dial.state in
    let kits = all_given_back g.F.Look.Look g.F.View.View state c.args.held.kits.items (storage (at c.args.files.now) (state c.args.dial.now)) (storage (at c.close_kits.new.files) (state c.close_kits.new.dial)) c.close_kits.ensures.given in
    let o = seen g.F.Folder.Look c.args.held.shelf in
    let gave = given_adds o (at c.close_kits.new.files) (at c.give_cache.new.files) c.give_cache.ensures.given in
    record { known = all_known_later g.F.View.View.held (at c.args.files.now).file_counts (at c.close_groups.new.files).file_counts (λ q is. c.close_groups.ensures.kept.0.disk.known q (gave.known q (kits.disk.known q is))) c.args.held.seeds.items c.requires.given.seeds }

pub returns : goal.returns
returns g c =
    let at = g.F.Files.disk in
    let state = g.D.Dial.state in
    let o = seen g.F.Folder.Look c.args.held.shelf in
    let d = at c.args.files.now in
    let a = at c.close_kits.new.files in
    let b = at c.give_cache.new.files in
    let e = at c.close_groups.new.files in
    let f = at c.close_seeds.new.files in
    let w = storage d (state c.args.dial.now) in
    let first = storage a (state c.close_kits.new.dial) in
    let groups = groups_of g.F.Look.Look c.args.held in
    let names = names_among (map (seed_held g.F.View.View.held) c.args.held.seeds.items) in
    record {
      given = record {
        first = first;
        kits = c.close_kits.ensures.given;
        cached = b;
        cache = c.give_cache.ensures.given;
        closed = e;
        stores = c.close_groups.ensures.kept;
        counts = c.close_groups.ensures.counts;
        given = c.close_groups.ensures.given;
        ended = c.close_groups.ensures.ended;
        seeds = c.close_seeds.ensures.kept;
        used = λ images named. kits_used images c.args.held.cache groups names d a f named.seeds (given_used g.F.Look.Look g.F.View.View state images (folders_among (stores_of groups)) c.args.held.kits.items w first named.kits c.close_kits.ensures.given)
            (back_used o c.args.held.cache groups names a b e f (same_names g.F.Folder.Look c.args.held.shelf ∙ c.requires.given.named) c.give_cache.ensures.given c.close_groups.ensures.used c.close_seeds.ensures.used);
        folder_counts = c.close_seeds.ensures.counts;
        added = c.close_seeds.ensures.added;
      };
    }
