use Rattle.std.proofs.Common.{◌≡◌, ◌∙◌, [], All, IfSome, IsSome, List, Ok, inr, map, rules, subst, sym}
use Rattle.std.proofs.lemmas.List.Elements.{All-nil}
use Rattle.chunk_sources.specs.Caches.{seen}
use Rattle.command_steps.proofs.Cached.{cache_longer, cache_reads}
use Rattle.command_steps.proofs.Given.{all_later}
use Rattle.command_groups.specs.Groups.{stores_of}
use Rattle.command_groups.specs.Opened.{files_in, locations_in}
use Rattle.command_steps.specs.AnyStores.{IsKnown}
use Rattle.command_steps.specs.Sources.{location_files}
use Rattle.command_steps.specs.Cache.{with_cache}
use Rattle.command_steps.specs.Seeds.{SeedsKnown}
use Rattle.command_steps.specs.Uses.{Uses, folders_among}
use Rattle.command_words.specs.declared.command.Location.{Location}
use Rattle.extract_command.proofs.Shelved.{taken_gone}
use Rattle.extract_command.proofs.held.reach.Goals as goal
use Rattle.extract_command.specs.Kits.{CanGiveKit}

pub open_groups-requires : goal.open_groups-requires
open_groups-requires g c = record { each = rw c.as_slice-groups.ensures c.requires.size.each }

pub returns-in-Err-take_cache-clause-err : goal.returns-in-Err-take_cache-clause-err
returns-in-Err-take_cache-clause-err g c =
    let at = g.F.Files.disk in
    let f = at c.open_groups.new.files in
    let b = at c.take_cache.new.files in
    let e = at c.drop_groups.new.files in
    let groups = c.args.stores.now.groups in
    let opened = rw c.as_slice-groups.ensures at c.in-Ok-open_groups.ensures in
    let dropped = subst (λ (l : List (List Location)). Uses [] (folders_among (stores_of l)) b e) opened.located c.drop_groups.ensures.used in
    let refused = cache_longer (stores_of groups) c.args.cache f b e c.in-Err-take_cache.outcome c.in-Err-take_cache.ensures.err c.drop_groups.ensures.kept dropped in
    inr (f, (opened.there, opened.kept, opened.used), refused)

pub returns-in-Ok-take_cache-clause-fresh : goal.returns-in-Ok-take_cache-clause-fresh
returns-in-Ok-take_cache-clause-fresh g c =
    let at = g.F.Files.disk in
    let f = at c.open_groups.new.files in
    let b = at c.take_cache.new.files in
    let groups = c.args.stores.now.groups in
    let opened = rw c.as_slice-groups.ensures at c.in-Ok-open_groups.ensures in
    let shelf = c.in-Ok-take_cache.ensures in
    let m = with_cache (seen g.F.Folder.Look c.in-Ok-take_cache.shelf) b in
    let reached = cache_reads [] c.args.cache f m (Ok tt) shelf.ok in
    let known = all_later f.folder_counts b.folder_counts reached.folder_known (stores_of groups) opened.known in
    let stores = subst (λ (l : List (List Location)). All (IsKnown b.folder_counts) (stores_of l)) (sym opened.located) known in
    let folders = (at c.args.files.now).folders in
    let xs = c.in-Ok-open_groups.stores.items in
    let there = subst (λ (l : List (List Location)). IfSome folders (λ m. map (files_in g.F.Look.Look.files) xs ≡ map (map (location_files m)) l)) (sym opened.located) opened.found in
    let found = subst (λ o. IfSome o (λ m. map (files_in g.F.Look.Look.files) xs ≡ map (map (location_files m)) (map (locations_in g.F.Look.Look.place) xs))) (sym (reached.folders ∙ opened.kept.folders)) there in
    record {
      lent = record {
        stores = stores;
        named = shelf.named;
        cache = shelf.known;
        seeds = subst (λ l. SeedsKnown g.F.View.View.held b.file_counts l) (sym c.new.ensures.items) (All-nil (λ s. IfSome s.view (λ v. IsSome (b.file_counts (g.F.View.View.held v).name))));
        kits = subst (λ l. All (CanGiveKit g.F.Look.Look g.F.View.View b) l) (sym c.in-Ok.ensures.items) (All-nil (CanGiveKit g.F.Look.Look g.F.View.View b));
      };
      unused = opened.unused;
      fresh = opened.fresh;
      shelf = shelf.fresh;
      found = found;
      gone = taken_gone c.args.cache (at c.open_groups.new.files).folders b.folders shelf.gone;
      none = c.new.ensures.items;
      room = search rules;
    }
