use Rattle.std.proofs.Common.{◌≡◌, ◌∙◌, ◌<◌, ◌≤◌, ◌+◌, ℕ, All, List, [], length, Option, IfSome, Ok, Result, map, refl, rules, ap, subst, sym}
use Rattle.cat_command.proofs.Between.{ends_between, then_so}
use Rattle.cat_command.proofs.Given.{each_weaker}
use Rattle.cat_command.specs.Cat.{EndsRange, RangePut, asked_times, kept_chunks}
use Rattle.chunk_store.specs.declared.store.Store.{Ghosts as StoreWords}
use Rattle.command_groups.proofs.Asked.{groups_asked}
use Rattle.command_groups.proofs.Seen.{groups_hold, groups_tell}
use Rattle.command_groups.proofs.Stand.{found_after, fresh_first, fresh_tries, groups_many, groups_stand_still, groups_try_still}
use Rattle.command_groups.proofs.Standing.{all_groups_stand}
use Rattle.command_groups.proofs.Words.{group_words, groups_alone}
use Rattle.command_groups.specs.Groups.{stores_of}
use Rattle.command_groups.specs.Numbers.{answer_of_stores}
use Rattle.command_groups.specs.Opened.{files_in, locations_in, told_files}
use Rattle.command_outcome.specs.declared.outcome.Outcome.{Outcome}
use Rattle.command_steps.proofs.Asking.{none_more}
use Rattle.command_steps.specs.AnyStores.{IsKnown, source_faults}
use Rattle.command_steps.specs.Sources.{ConsultsStores, SourcesOpened, location_files, storage_of}
use Rattle.command_steps.specs.declared.any_store.AnyStore.{AnyStore}
use Rattle.command_words.specs.declared.command.Location.{Location}
use Rattle.command_worlds.specs.Worlds.{OnDisk, world}
use Rattle.dsy_base.specs.Maps.{Map}
use Rattle.image_reader.specs.Covered.{IsCoveredGet, wants_of}
use Rattle.image_reader.specs.Keeping.{missed}
use Rattle.image_reader.specs.Reading.{AsksWants}
use Rattle.store_chain.specs.Chains.{Chained}
use Rattle.store_group.specs.Groups.{Grouped}
use Rattle.cat_command.proofs.cat.put_stored.Goals as goal

pub with_kind-chain-requires : goal.with_kind-chain-requires
with_kind-chain-requires g c =
    let few = groups_many (locations_in g.F.Look.Look.place) c.args.sources.now.groups c.args.sources.now.retries c.in_ok-opened.opened.items (c.in_ok-opened.ensures.located ∙ c.as_slice-groups.ensures) c.requires.groups in
    search rules

pub close_groups-requires : goal.close_groups-requires
close_groups-requires g c =
    let at = g.F.Files.disk in
    let place = g.F.Look.Look.place in
    let before = c.in_ok-opened.opened.items in
    let after = c.put_from-chain.result.0.stores in
    let kept = rw c.with_kind-chain.ensures.value at c.put_from-chain.ensures.kept in
    let located = groups_stand_still place before after kept.places ∙ c.in_ok-opened.ensures.located in
    let known = subst (λ (l : List (List Location)). All (IsKnown (at c.open_groups.new.files).folder_counts) (stores_of l)) (sym located) c.in_ok-opened.ensures.known in
    record { known = rw c.into_stores-asked.ensures.value known }

pub returns : goal.returns
returns g c =
    let at = g.F.Files.disk in
    let look = g.F.Look.Look in
    let place = look.place in
    let sure = look.never_fails in
    let state = g.D.Dial.state in
    let words : StoreWords (Grouped (AnyStore g.row.F-Look.Denot g.row.D.Denot g.row.D-Link.Denot)) = group_words look state in
    let files : Grouped (AnyStore g.row.F-Look.Denot g.row.D.Denot g.row.D-Link.Denot) → Option (Map (List ℕ)) = told_files sure look.files in
    let l = c.args.index in
    let from = c.args.range.at in
    let n = c.args.range.size in
    let groups = c.args.sources.now.groups in
    let e = c.args.sources.now.retries in
    let named = c.as_slice-groups.ensures in
    let opened = c.in_ok-opened.ensures in
    let before = c.in_ok-opened.opened.items in
    let after = c.put_from-chain.result.0.stores in
    let kept = rw c.with_kind-chain.ensures.value at c.put_from-chain.ensures.kept in
    let asks = rw c.with_kind-chain.ensures.value at c.put_from-chain.ensures.asks in
    let queries = rw c.with_kind-chain.ensures.value at c.put_from-chain.ensures.queries in
    let ends = rw c.with_kind-chain.ensures.value at c.put_from-chain.ensures.ends in
    let stands = groups_stand_still place before after kept.places in
    let located = stands ∙ opened.located ∙ named in
    let first = fresh_first (source_faults look.faults state) e before opened.fresh in
    let tries = groups_try_still place e before after kept.places (fresh_tries (source_faults look.faults state) e before opened.fresh) in
    let w = world (at c.args.files.now) (state c.args.dial.now) (g.O.Sink.output c.args.out.now) in
    let u = world (at c.open_groups.new.files) (state c.args.dial.now) (g.O.Sink.output c.args.out.now) in
    let v = world (at c.close_groups.new.files) (state c.close_groups.new.dial) (g.O.Sink.output c.put_from-chain.new.out) in
    let F : Option (Map (Map (List ℕ))) → Type 0 = λ o. IfSome o (λ m. map (files_in look.files) before ≡ map (map (location_files m)) groups) in
    let found : F u.disk.folders = subst F (sym opened.kept.folders) (subst (λ (l : List (List Location)). IfSome w.disk.folders (λ m. map (files_in look.files) before ≡ map (map (location_files m)) l)) named opened.found) in
    let closed = rw c.into_stores-asked.ensures.value at c.close_groups.ensures.given in
    let consults = rw c.into_stores-asked.ensures.value at c.close_groups.ensures.kept in
    let ended = rw c.into_stores-asked.ensures.value at c.close_groups.ensures.ended in
    let stand = all_groups_stand sure look.files place look.faults state e (storage_of u) (storage_of v) after groups located (found_after look.files u.disk.folders before after groups kept.folders found) tries closed in
    let chain : Chained (Grouped (AnyStore g.row.F-Look.Denot g.row.D.Denot g.row.D-Link.Denot)) = record { stores = before; asks = 0; kind = c.kind.result } in
    let range = ends_between sure words (locations_in place) files e u v groups l c.rules.ensures from n chain c.put_from-chain.result.0 c.kind.ensures (groups_hold sure look.files before) (groups_tell sure look.files u.disk.folders before groups first found) located stand (groups_alone look state) c.put_from-chain.result.1 ends in
    let asked = groups_asked place state e (asked_times l from n) (λ id. 0) (IsCoveredGet l from n) before after groups u.dial.ended v.dial.ended opened.unused tries stands
    (each_weaker (λ a b. AsksWants (missed kept_chunks [] (wants_of l from n)) (words.asked a) (words.asked b)) (λ a b. (q : List ℕ) → words.asked b q ≤ words.asked a q + asked_times l from n q) (λ a b h. h.most) before after asks)
    (none_more words.queried before after queries) kept.sends located ended in
    let did : OnDisk (SourcesOpened (stores_of groups)) w (Ok tt) u = rw (sym named) ((opened.there, opened.kept, opened.used), refl, refl) in
    let put = c.put_from-chain.result.1 in
    let answer : c.numbered-answer.result ≡ answer_of_stores groups put = c.numbered-answer.ensures.value ∙ ap (λ (names : List (List Location)). answer_of_stores names put) named in
    let put_so = subst (λ (r : Result Unit Outcome). EndsRange sure groups e l from n u v r) (sym answer) range in
    record { ends = then_so (OnDisk (SourcesOpened (stores_of groups))) (λ _. RangePut sure groups e l from n) w u v tt c.numbered-answer.result did (put_so, subst (λ (names : List (List Location)). ConsultsStores (stores_of names) (storage_of u) (storage_of v)) located consults, asked, c.put_from-chain.ensures.faults) }
