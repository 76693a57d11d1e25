use Rattle.std.proofs.Common.{◌≡◌, ◌∙◌, ℕ, arith, All, IfSome, List, ap, map, subst, sym}
use Rattle.std.specs.List.{AllZip}
use Rattle.command_steps.proofs.Consulted.{reads_none, reads_twice}
use Rattle.command_steps.proofs.Given.{all_later}
use Rattle.command_groups.proofs.Stand.{groups_many}
use Rattle.command_groups.specs.Groups.{stores_of}
use Rattle.command_groups.specs.Opened.{AreUnused, IsFresh, files_in, locations_in}
use Rattle.command_steps.specs.AnyStores.{IsKnown, source_faults}
use Rattle.command_steps.specs.Seeds.{IsViewed, SeedsKnown, image_name}
use Rattle.command_steps.specs.Sources.{location_files}
use Rattle.command_steps.specs.Uses.{folders_among}
use Rattle.command_words.specs.declared.command.Location.{Location}
use Rattle.extract_command.proofs.LentKits.{views_over}
use Rattle.extract_command.proofs.Using.{both_used}
use Rattle.extract_command.proofs.kits.open_kit.Goals as goal
use Rattle.extract_plan.specs.Seeds.{faults_in, seed_held}

pub open_groups-requires : goal.open_groups-requires
open_groups-requires g c = record { each = rw c.as_slice-groups.ensures c.requires.size.each }

pub with_kind-requires : goal.with_kind-requires
with_kind-requires g c =
    let opened = rw c.as_slice-groups.ensures at c.in-Ok.ensures.located in
    let few = groups_many (locations_in g.F.Look.Look.place) c.args.stores.now.groups c.args.stores.now.retries c.in-Ok.stores.items opened c.requires.size in
    record { size = (omega (arith, c.in-Ok.stores.ok.0, few.0), omega (arith, c.in-Ok.stores.ok.0, few.1)) }

pub returns-in-Ok-open_seeds-clause-some : goal.returns-in-Ok-open_seeds-clause-some
returns-in-Ok-open_seeds-clause-some g c =
    let at = g.F.Files.disk in
    let look = g.F.Look.Look in
    let view = g.F.View.View in
    let state = g.D.Dial.state in
    let d = at c.args.files.now in
    let m = at c.open_groups.new.files in
    let e = at c.open_seeds.new.files in
    let groups = c.args.stores.now.groups in
    let retries = c.args.stores.now.retries in
    let images = map image_name c.args.seeds.now in
    let opened = rw c.as_slice-groups.ensures at c.in-Ok.ensures in
    let seeded = c.in-Ok-open_seeds.ensures in
    let k = c.new.result in
    let chain = c.new.ensures.chain ∙ c.with_kind.ensures.value in
    let stores_are : k.chain.stores ≡ c.in-Ok.stores.items = ap (λ q. q.stores) chain in
    let seeds_are = c.new.ensures.seeds in
    let located : map (locations_in look.place) k.chain.stores ≡ groups = ap (map (locations_in look.place)) stores_are ∙ opened.located in
    record {
      found = subst (λ l. IfSome d.folders (λ m. map (files_in look.files) l ≡ map (map (location_files m)) groups)) (sym stores_are) opened.found;
      located = located;
      fresh = subst (λ l. All (IsFresh (source_faults look.faults state) retries) l) (sym stores_are) opened.fresh;
      unused = subst (λ l. All (AreUnused state) l) (sym stores_are) opened.unused;
      viewed = views_over d m e e opened.kept (reads_none e) images (map (seed_held view.held) k.seeds.items) (subst (λ v. AllZip (IsViewed m e) images (map (seed_held view.held) v.items)) (sym seeds_are) seeded.found);
      unfailed = subst (λ v. map (faults_in view.faults) v.items ≡ map {B = ℕ} (λ s. 0) v.items) (sym seeds_are) seeded.fresh;
      given = record {
        stores = subst (λ (l : List (List Location)). All (IsKnown e.folder_counts) (stores_of l)) (sym located) (all_later m.folder_counts e.folder_counts seeded.kept.folder_known (stores_of groups) opened.known);
        seeds = subst (λ v. SeedsKnown view.held e.file_counts v.items) (sym seeds_are) seeded.known;
      };
    }

pub returns-in-Ok-open_seeds-clause-kind : goal.returns-in-Ok-open_seeds-clause-kind
returns-in-Ok-open_seeds-clause-kind g c = ap (λ q. q.kind) (c.new.ensures.chain ∙ c.with_kind.ensures.value)

pub returns-in-Ok-open_seeds-clause-kept : goal.returns-in-Ok-open_seeds-clause-kept
returns-in-Ok-open_seeds-clause-kept g c =
    let at = g.F.Files.disk in
    reads_twice (at c.args.files.now) (at c.open_groups.new.files) (at c.open_seeds.new.files) c.in-Ok.ensures.kept c.in-Ok-open_seeds.ensures.kept

pub returns-in-Ok-open_seeds-clause-used : goal.returns-in-Ok-open_seeds-clause-used
returns-in-Ok-open_seeds-clause-used g c =
    let at = g.F.Files.disk in
    both_used (map image_name c.args.seeds.now) (folders_among (stores_of c.args.stores.now.groups)) (at c.args.files.now) (at c.open_groups.new.files) (at c.open_seeds.new.files) (rw c.as_slice-groups.ensures at c.in-Ok.ensures.used) c.in-Ok-open_seeds.ensures.used
