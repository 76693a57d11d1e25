use Rattle.std.proofs.Common.{◌≡◌, ◌∙◌, ◌+◌, ◌<◌, ◌≤◌, ◌∷◌, [], ℕ, suc, All, List, Some, arith, length, map, slice_index_or, ap, refl, subst, sym}
use Rattle.std.proofs.lemmas.List.{length-map}
use Rattle.std.proofs.lemmas.List.Elements.{All-cons, All-head, AllZip-get_or, length_all_zip}
use Rattle.std.specs.List.{AllZip, fold}
use Rattle.cache_command.proofs.AskedListings.{front_wider}
use Rattle.cache_command.proofs.CacheFilled.{IsBack, filled_between}
use Rattle.cache_command.proofs.GivenChains.{all_consulted, all_dialed, all_given, chain_files, chain_given_then, chain_stands, chain_tries, chains_stand, zip_stores}
use Rattle.command_groups.proofs.LentChains.{chains_consult}
use Rattle.cache_command.proofs.cache.fill_between.Goals as goal
use Rattle.cache_command.specs.Caching.{FilledBetween, FillsEach, listed_times, of_calls}
use Rattle.cache_fill.proofs.Progress.{mapped_all}
use Rattle.chunk_dealing.specs.Dealing.{sum_to}
use Rattle.command_groups.specs.Chains.{CanGiveChain, chain_groups}
use Rattle.cache_command.specs.Filling.{AsksListings, each_stores}
use Rattle.cache_store.specs.Shelves.{shelf_of}
use Rattle.command_groups.proofs.Words.{group_words}
use Rattle.command_groups.specs.Groups.{stores_of}
use Rattle.command_groups.specs.Numbers.{answer_of_stores}
use Rattle.command_groups.specs.Opened.{IsFresh, IsGroupGiven, files_in, locations_in, with_group}
use Rattle.command_indexes.proofs.Spelled.{IsPart}
use Rattle.command_steps.proofs.Cached.{given_adds}
use Rattle.command_steps.proofs.Dialed.{dials_none}
use Rattle.command_steps.proofs.Given.{all_later}
use Rattle.command_steps.specs.AnyStores.{IsKnown, source_faults}
use Rattle.command_steps.specs.Cache.{CacheGiven, with_cache}
use Rattle.command_steps.specs.Sources.{ConsultsStores, location_files, storage}
use Rattle.command_steps.specs.declared.any_store.AnyStore.{AnyStore}
use Rattle.command_words.specs.declared.command.Location.{Location}
use Rattle.command_worlds.specs.Worlds.{Adds}
use Rattle.std.specs.Prelude.{IfSome}
use Rattle.store_chain.specs.Chains.{Chained}
use Rattle.store_group.specs.Groups.{Grouped}

pub numbered-answer-requires : goal.numbered-answer-requires
numbered-answer-requires g c = record { few = rw c.as_slice-named.ensures c.requires.groups.few }

pub give_shelf-requires : goal.give_shelf-requires
give_shelf-requires g c =
    let D = g.F.Folder.Look in
    let over = c.fill_each-filling.ensures in
    let given : c.into_parts-shelf.result.0.folder ≡ c.fill_each-filling.result.0.cached.shelf.folder = ap (λ p. p.0.folder) c.into_parts-shelf.ensures in
    record {
      named = ap D.place given ∙ over.place ∙ c.requires.reached.cache_named ∙ sym c.as_str.ensures;
      known = rw c.as_str.ensures (over.had.reads.folder_known _ c.requires.reached.cache_known);
    }

pub close_chains-requires : goal.close_chains-requires
close_chains-requires g c =
    let at = g.F.Files.disk in
    let D = g.F.Folder.Look in
    let look = g.F.Look.Look in
    let state = g.D.Dial.state in
    let first = c.args.filling.cached.chain in
    let names = chain_groups look first in
    let more = c.args.filling.further.items in
    let further = c.fill_each-filling.result.0.further.items in
    let over = c.fill_each-filling.ensures in
    let asked = over.asks.2.1 in
    let gave = given_adds (Some (shelf_of D.files D.place D.faults c.into_parts-shelf.result.0)) (at c.fill_each-filling.new.files) (at c.give_shelf.new.files) c.give_shelf.ensures.given in
    let stand = chains_stand look state over.asks.0 names more further asked c.requires.reached.located in
    let known = all_later (at c.args.files.now).folder_counts (at c.give_shelf.new.files).folder_counts (λ q is. gave.folder_known q (over.had.reads.folder_known q is)) (stores_of names) (All-head (CanGiveChain look (at c.args.files.now)) first more c.requires.reached.given) in
    record { given = λ n x lt. subst (λ (l : List (List Location)). All (IsKnown (at c.give_shelf.new.files).folder_counts) (stores_of l)) (sym (stand n x lt)) known }

pub close_groups-requires : goal.close_groups-requires
close_groups-requires g c =
    let at = g.F.Files.disk in
    let D = g.F.Folder.Look in
    let look = g.F.Look.Look in
    let state = g.D.Dial.state in
    let over = c.fill_each-filling.ensures in
    let first = c.args.filling.cached.chain in
    let names = chain_groups look first in
    let more = c.args.filling.further.items in
    let further = c.fill_each-filling.result.0.further.items in
    let asked = over.asks.2.1 in
    let after = c.fill_each-filling.result.0.cached.chain.stores in
    let last : c.into_stores-groups.result.items ≡ after = c.into_stores-groups.ensures.value ∙ ap (λ p. p.1.stores) c.into_parts-shelf.ensures in
    let located = ap (map (locations_in look.place)) last ∙ chain_stands look state over.asks.0 first c.fill_each-filling.result.0.cached.chain over.asks.2.0 in
    let gave = given_adds (Some (shelf_of D.files D.place D.faults c.into_parts-shelf.result.0)) (at c.fill_each-filling.new.files) (at c.give_shelf.new.files) c.give_shelf.ensures.given in
    let stand = chains_stand look state over.asks.0 names more further asked c.requires.reached.located in
    let closed = chains_consult look state names further (storage (at c.give_shelf.new.files) (state c.fill_each-filling.new.dial)) (storage (at c.close_chains.new.files) (state c.close_chains.new.dial)) stand c.close_chains.ensures.given in
    let known = all_later (at c.args.files.now).folder_counts (at c.close_chains.new.files).folder_counts (λ q is. closed.0.disk.folder_known q (gave.folder_known q (over.had.reads.folder_known q is))) (stores_of names) (All-head (CanGiveChain look (at c.args.files.now)) first more c.requires.reached.given) in
    record { known = subst (λ (l : List (List Location)). All (IsKnown (at c.close_chains.new.files).folder_counts) (stores_of l)) (sym located) known }

pub returns : goal.returns
returns g c =
    let at = g.F.Files.disk in
    let D = g.F.Folder.Look in
    let look = g.F.Look.Look in
    let state = g.D.Dial.state in
    let store = group_words look state in
    let words = c.args.words.now in
    let names = words.stores in
    let again = words.retries in
    let indexes = words.indexes in
    let cache = words.cache in
    let first = c.args.filling.cached.chain in
    let more = c.args.filling.further.items in
    let over = c.fill_each-filling.ensures in
    let chain = c.fill_each-filling.result.0.cached.chain in
    let after = chain.stores in
    let further = c.fill_each-filling.result.0.further.items in
    let worker = c.fill_each-filling.result.0.refuser in
    let filled = c.fill_each-filling.result.1 in
    let s = shelf_of D.files D.place D.faults c.args.filling.cached.shelf in
    let t = shelf_of D.files D.place D.faults c.fill_each-filling.result.0.cached.shelf in
    let d0 = at c.args.files.now in
    let b = at c.fill_each-filling.new.files in
    let m = at c.give_shelf.new.files in
    let f = at c.close_chains.new.files in
    let e = at c.close_groups.new.files in
    let n = state c.args.dial.now in
    let k = state c.fill_each-filling.new.dial in
    let i = state c.close_chains.new.dial in
    let j = state c.close_groups.new.dial in
    let asked = over.asks in
    let ls = asked.0 in
    let their = asked.2.1 in
    let fresh = c.requires.reached.fresh in
    let fresh_first = All-head (λ (x : Chained (Grouped (AnyStore g.row.F-Look.Denot g.row.D.Denot g.row.D-Link.Denot))). All (IsFresh (source_faults look.faults state) again) x.stores) first more fresh in
    let last : c.into_stores-groups.result.items ≡ after = c.into_stores-groups.ensures.value ∙ ap (λ p. p.1.stores) c.into_parts-shelf.ensures in
    let given : c.into_parts-shelf.result.0 ≡ c.fill_each-filling.result.0.cached.shelf = ap (λ p. p.0) c.into_parts-shelf.ensures in
    let located : map (locations_in look.place) after ≡ names = chain_stands look state ls first chain asked.2.0 ∙ c.requires.located in
    let all_located : All (λ x. chain_groups look x ≡ names) more = λ x y lt. c.requires.reached.located x y lt ∙ c.requires.located in
    let stand = chains_stand look state ls names more further their all_located in
    let turn = c.close_chains.ensures.given in
    let at_cache = subst (λ (q : List ℕ). CacheGiven (Some (shelf_of D.files D.place D.faults c.into_parts-shelf.result.0)) b m) c.as_str.ensures c.give_shelf.ensures.given in
    let gives = subst (λ x. CacheGiven (Some (shelf_of D.files D.place D.faults x)) b m) given at_cache in
    let closes = subst (λ ys. ConsultsStores (stores_of (map (locations_in look.place) ys)) (storage f i) (storage e j)) last c.close_groups.ensures.kept in
    let closed = subst (λ ns. ConsultsStores (stores_of ns) (storage f i) (storage e j)) located closes in
    let gained = subst (λ ys. All (IsGroupGiven look.place look.faults state (storage f i) (storage e j)) ys) last c.close_groups.ensures.given in
    let all_closed = all_consulted look state names further (storage m k) (storage f i) (storage e j) stand turn closed in
    let all_gained = all_given look state names further after (storage m k) (storage f i) (storage e j) stand turn closed gained in
    let at_indexes = subst (λ (l : List (List ℕ)). FillsEach (of_calls store (each_stores (first ∷ more)) (each_stores (chain ∷ further)) worker (D.faults c.args.filling.cached.shelf.folder) t.faults) (storage d0 n) (storage b k) l s.files t.files filled) c.as_slice-indexes.ensures over.filled in
    let at_zero = subst (λ (z : ℕ). FillsEach (of_calls store (each_stores (first ∷ more)) (each_stores (chain ∷ further)) worker z t.faults) (storage d0 n) (storage b k) indexes s.files t.files filled) c.requires.reached.cache_fresh at_indexes in
    let ended = subst (λ ys. j.ended ≡ fold (with_group state) i.ended ys) last c.close_groups.ensures.ended in
    let shares = asked.3 in
    let gets = all_dialed look state ls shares.shares names again first chain more further (storage m k) (storage f i) j.ended asked.2.0 their shares.gets c.requires.reached.unused fresh c.requires.located all_located turn ended in
    let had = rw c.as_slice-indexes.ensures at over.had in
    let read = rw c.as_slice-indexes.ensures at asked.1 in
    let gave : Adds b m = given_adds (Some t) b m gives in
    let part : IsPart (storage (with_cache (Some s) d0) n) (storage d0 n) (storage b k) (storage e j) = record {
      files = refl;
      before = dials_none n;
      during = had.dials;
      after = all_closed.0.dial;
      counts = λ a. omega arith;
      later = λ a. let one = gave.counts a in let two = all_closed.0.disk.counts a in omega (arith, one, two);
    } in
    let many : length more ≡ length further = length_all_zip (AsksListings _ ls) more further their in
    let Back : List (Grouped (AnyStore g.row.F-Look.Denot g.row.D.Denot g.row.D-Link.Denot)) → List (Grouped (AnyStore g.row.F-Look.Denot g.row.D.Denot g.row.D-Link.Denot)) → Type 0 =
    IsBack cache s t d0 b m e n k j names c.requires.reached.cache_named (over.place ∙ c.requires.reached.cache_named) had.reads gives all_closed part look state again in
    let found_of = λ (x : Chained (Grouped (AnyStore g.row.F-Look.Denot g.row.D.Denot g.row.D-Link.Denot))) (is : chain_groups look x ≡ names).
    subst (λ ns. IfSome (with_cache (Some s) d0).folders (λ m. map (files_in look.files) x.stores ≡ map (map (location_files m)) ns)) is in
    let back_first : Back first.stores after = record {
      fresh = fresh_first;
      located = located;
      tries = chain_tries look state ls again first chain asked.2.0 fresh_first;
      same = chain_files look state ls first chain asked.2.0;
      told_same = asked.2.0.keeps.files;
      found = found_of first c.requires.located (c.requires.reached.found 0 first (omega arith));
      gained = all_gained;
    } in
    let back_more : AllZip Back (each_stores more) (each_stores further) = zip_stores Back more further many (λ l x less.
    (let old = slice_index_or more l x in
    let new = slice_index_or further l x in
    let asks = AllZip-get_or (AsksListings store ls) more further l x x their less in
    let fresh_one = fresh (suc l) x (omega (arith, less)) in
    record {
      fresh = fresh_one;
      located = stand l x (omega (arith, less, many));
      tries = chain_tries look state ls again old new asks fresh_one;
      same = chain_files look state ls old new asks;
      told_same = asks.keeps.files;
      found = found_of old (all_located l x less) (c.requires.reached.found (suc l) x (omega (arith, less)));
      gained = chain_given_then look state names further (storage m k) (storage f i) (storage e j) stand turn closed l x (omega (arith, less, many));
    })) in
    let backs : AllZip Back (first.stores ∷ each_stores more) (after ∷ each_stores further) = (back_first, back_more) in
    let one_more : length (first ∷ more) ≡ 1 + length further = omega (arith, many) in
    let less : worker < length (after ∷ each_stores further) = omega (arith, over.refuser (omega (arith, c.requires.refuser)), length-map further (λ (x : Chained (Grouped (AnyStore g.row.F-Look.Denot g.row.D.Denot g.row.D-Link.Denot))). x.stores)) in
    let between = filled_between cache s t d0 b m e n k j names c.requires.reached.cache_named (over.place ∙ c.requires.reached.cache_named) had.reads gives all_closed part look state again
    first.stores (each_stores more) (after ∷ each_stores further) backs worker less (1 + length more) indexes filled at_zero had.undialed
    (record {
      listings = ls;
      read = front_wider (storage (with_cache (Some s) d0) n) (storage d0 n) (storage b k) (storage e j) part indexes ls read;
      ended = k.ended;
      fetches = had.asks;
      workers = 1 + length further;
      some = omega arith;
      few = omega (arith, many);
      shares = shares.shares;
      together = λ q. subst (λ (z : ℕ). sum_to (λ a. shares.shares a q) z ≤ listed_times ls q) one_more (shares.together q);
      gets = gets;
    }) in
    let answer : c.numbered-answer.result ≡ answer_of_stores names filled = c.numbered-answer.ensures.value ∙ ap (λ (l : List (List Location)). answer_of_stores l filled) c.as_slice-named.ensures in
    record { filled = subst (λ r. FilledBetween look.never_fails names again cache (1 + length more) indexes (storage (with_cache (Some s) d0) n) (storage e j) r) (sym answer) between }
