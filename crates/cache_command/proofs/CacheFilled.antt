-- Filling a cache by indexes in order: what one of them comes to, from one to the next, and what stands when all is given
-- back.
use Rattle.std.proofs.Common.{◌≡◌, ◌⊎◌, ℕ, ◌≤◌, List, [], ◌∷◌, suc, ◌<◌, All, length, map, slice_index, Option, Some, None, IfSome, IsSomeAnd, Result, Ok, Err, IfErr, refl, sym, subst, ap, ◌∙◌, inl, inr, arith, slice_index_or, ◌&&◌, Bool, true, false, IsTrue}
use Rattle.std.proofs.lemmas.List.{get_or-map, length-map}
use Rattle.std.proofs.lemmas.List.Elements.{AllZip-get_or, length_all_zip}
use Rattle.std.specs.List.{AllZip}
use Rattle.std.specs.Map.{count_at}
use Rattle.std.specs.Option.{option_map}
use Rattle.cache_store.proofs.Stocked.{stocks_weaker}
use Rattle.cache_store.specs.Shelves.{Shelf, Stocks, held_on}
use Rattle.caibx_codec.specs.Asks.{IsListedGet}
use Rattle.caibx_codec.specs.Listing.{Listing, id_of, kind_of, size_of}
use Rattle.chunk_store.proofs.Members.{told_alone}
use Rattle.chunk_store.specs.Folders.{chunks}
use Rattle.chunk_store.specs.declared.id.ChunkId.{ChunkId}
use Rattle.chunk_store.specs.declared.store.Store.{Ghosts as StoreWords}
use Rattle.command_groups.proofs.Folders.{put_twice, was_put}
use Rattle.command_groups.proofs.Given.{group_given_earlier}
use Rattle.command_groups.proofs.Lacked.{groups_lack, lacks_number}
use Rattle.command_groups.proofs.Quiet.{groups_quiet}
use Rattle.command_groups.proofs.Seen.{groups_tell}
use Rattle.command_groups.proofs.Stand.{found_after, fresh_counts, fresh_first}
use Rattle.command_groups.proofs.Standing.{Standing, all_groups_stand}
use Rattle.command_groups.proofs.Words.{group_words}
use Rattle.command_groups.specs.Groups.{group_files, stores_of}
use Rattle.command_groups.specs.Lacking.{HaveLackedIn}
use Rattle.command_groups.specs.Numbers.{answer_of_stores, refused_of_stores}
use Rattle.command_groups.specs.Opened.{IsFresh, IsGroupGiven, files_in, locations_in, told_files}
use Rattle.command_outcome.specs.declared.outcome.Outcome.{Outcome}
use Rattle.command_words.specs.declared.command.Location.{Location}
use Rattle.command_steps.proofs.Cached.{given_adds}
use Rattle.command_steps.proofs.Dialed.{dials_twice}
use Rattle.command_steps.proofs.Numbers.{given_quiet, given_rose, rose_later, rose_longer}
use Rattle.command_steps.specs.AnyStores.{chunks_in, said_in, source_faults}
use Rattle.command_steps.specs.Cache.{CacheGiven, CacheOpened, with_cache}
use Rattle.command_indexes.proofs.Spelled.{IsPart, not_spelled_wider, spells_wider}
use Rattle.command_indexes.specs.Places.{are_files}
use Rattle.command_indexes.specs.Spelled.{IndexSpells, NotSpelled}
use Rattle.command_steps.specs.Stores.{are_folders}
use Rattle.command_steps.specs.Sources.{ConsultsStores, Storage, SourcesOpened, storage, location_files}
use Rattle.command_worlds.specs.Steps.{outcome_of}
use Rattle.command_worlds.specs.Worlds.{Adds, DiskQuiet, FolderRose, Reads, world}
use Rattle.command_steps.specs.declared.any_store.AnyStore.{AnyStore}
use Rattle.command_steps.proofs.Lacked.{same_length}
use Rattle.cache_command.proofs.Renumbered.{IsAnswerAs, IsFaultAs, IsOutcomeAs, IsSame, IsTold, fault_as, filled_as, fills_as, memory_as, same_answer, spelled_as, told_answer, told_lack}
use Rattle.cache_command.specs.Caching.{HoldsFirst, AddsListed, AllFilled, CacheEnds, EndsFilling, Evidence, FillExactly, FillTells, FilledBetween, FillsEach, IndexFilled, IsHeldListed, IsNotHad, NotFilled, StopsFilling, answer_of_fill, of_calls, of_command, outcome_of_fill, GetsListed}
use Rattle.dsy_base.specs.Counts.{Quiet, Rose}
use Rattle.dsy_base.specs.Disk.{Disk, Output}
use Rattle.dsy_base.specs.Links.{DialState}
use Rattle.dsy_base.specs.Maps.{Map, at_name}
use Rattle.dsy_base.specs.declared.look.Look.{Ghosts as LookWords}
use Rattle.image_store.specs.PutChunks.{IsListedId as IsAmong}
use Rattle.store_chain.specs.Chains.{Chained, KeepsStores}
use Rattle.store_chain.specs.Giving.{LacksAll}
use Rattle.store_chain.specs.Faults.{EachQuiet, NoneFalls}
use Rattle.store_chain.specs.declared.refused.Refused.{Refused}
use Rattle.store_chain.specs.declared.refused.Refused.TheVariants as refused
use Rattle.store_chain.specs.declared.query.Query.{Query}
use Rattle.store_group.specs.Groups.{Grouped, group_told}
use Rattle.cache_fill.proofs.Holding.{each_within, quiet_within}
use Rattle.cache_command.specs.Filling.{AsksListings, each_stores}
use Rattle.cache_fill.specs.Filling.{AreQuiet, EntryFails, FillEnds, FillStops, FillsBy, GivesEntry, HoldsTo, FillUnfailed, LosesAhead, LosesEntry, RefusesAhead, RefusesEntry, MayFillCache, StopsAhead, entry_want, fill_fault_of, filled_to}
use Rattle.cache_store.specs.Giving.{SomeGives}
use Rattle.chunk_store.specs.Said.{AskedOnce}
use Rattle.store_chain.specs.Refusals.{Refuses}
use Rattle.cache_fill.specs.declared.fill.FillFault.{FillFault}
use Rattle.cache_fill.specs.declared.fill.FillFault.TheVariants as faults

if_told : {X : Type 0} (o : Option X) (P : X → Type 0) → ((x : X) → o ≡ Some x → P x) → IfSome o P
if_told None P f = tt
if_told (Some x) P f = f x refl

of_told : {X : Type 0} (o : Option X) (P : X → Type 0) (x : X) → o ≡ Some x → IfSome o P → P x
of_told o P x is h = subst (λ r. IfSome r P) is h

both_true : (a b : Bool) → IsTrue (a && b) → IsTrue a × IsTrue b
both_true true b t = (refl, t)
both_true false b t = absurd (cc)

-- ---- by one index

-- what stores hold lies in their folders, where these tell
holds_of : (holds : Option (Map (List ℕ))) (folder : Option (Map (List ℕ))) (f : Map (List ℕ)) → folder ≡ Some f → IfSome folder (λ m. holds ≡ Some (chunks m)) → holds ≡ Some (chunks f)
holds_of holds folder f is lies = of_told folder (λ m. holds ≡ Some (chunks m)) f is lies

-- the worker whose stores refused a chunk is one of all
pub worker_inside : {S : Type 0} (store : StoreWords S) (l : Listing) (s0 s1 : Shelf) (c0 c1 : Chained S) (f0 f1 : List (Chained S)) (worker : ℕ) (r : Result Unit FillFault) → FillEnds store l s0 s1 c0 c1 f0 f1 worker r → worker ≤ length f1
worker_inside store l s0 s1 c0 c1 f0 f1 worker (Ok u) h = omega (arith, h.0)
worker_inside store l s0 s1 c0 c1 f0 f1 worker (Err fault) (inl h) = omega (arith, h.0)
worker_inside store l s0 s1 c0 c1 f0 f1 worker (Err fault) (inr h) = omega (arith, h.number, h.inside)

-- chains whose stores haven't failed
quiet_each : {S : Type 0} (counted : S → ℕ) (f0 f1 : List (Chained S)) → AllZip (λ a b. EachQuiet (map counted a) (map counted b)) (each_stores f0) (each_stores f1) → AreQuiet counted f0 f1
quiet_each counted [] [] h = tt
quiet_each counted [] (d ∷ ds) h = h
quiet_each counted (c ∷ cs) [] h = h
quiet_each counted (c ∷ cs) (d ∷ ds) h = (h.0, quiet_each counted cs ds h.1)

module _ {S : Type 0} (store : StoreWords S) (lies : (s : S) → IfSome (store.folder s) (λ m. store.holds s ≡ Some (chunks m))) (alone : (s : S) → IfSome (store.holds s) (λ m. store.members s ≡ Some (m ∷ []))) (l : Listing) (s0 s1 : Shelf) (c0 c1 : Chained S) (f0 f1 : List (Chained S)) (worker : ℕ)
    (kept : KeepsStores store (IsListedGet l) c0.stores c1.stores) (many : length f0 ≡ length f1) (alike : All (λ x. map store.holds x.stores ≡ map store.holds c0.stores) f0) where
  abbrev Calls : Evidence
  Calls = of_calls store (each_stores (c0 ∷ f0)) (each_stores (c1 ∷ f1)) worker s0.faults s1.faults

  all_hold : (xs : List S) (fs : List (Map (List ℕ))) → map store.folder xs ≡ map Some fs → map store.holds xs ≡ map Some (map chunks fs)
  all_hold [] [] told = refl
  all_hold [] (f ∷ fs) told = absurd (cc)
  all_hold (s ∷ xs) [] told = absurd (cc)
  all_hold (s ∷ xs) (f ∷ fs) told =
      let here : store.folder s ≡ Some f = cc in
      let rest : map store.folder xs ≡ map Some fs = cc in
      let one = holds_of (store.holds s) (store.folder s) f here (lies s) in
      let others = all_hold xs fs rest in
      λ i. one i ∷ others i

  maps_of : (fs : List (Map (List ℕ))) → map store.folder c0.stores ≡ map Some fs → map store.holds c0.stores ≡ map Some (map chunks fs)
  maps_of fs told = all_hold c0.stores fs told

  held_listed : (q b : List ℕ) → MayFillCache store.members l c0.stores q b → IsHeldListed Calls l q b
  held_listed q b (listed, some) = (listed, λ fs told. some (map chunks fs) (told_alone store.holds store.members alone c0.stores (map chunks fs) (maps_of fs told)))

  added : Stocks (MayFillCache store.members l c0.stores) s0 s1 → AddsListed Calls l s0.files s1.files
  added h =
      let weaker = stocks_weaker (MayFillCache store.members l c0.stores) (IsHeldListed Calls l) held_listed s0 s1 h in
      record { tells = weaker.told; chunks_are = weaker.chunks; strangers = weaker.strangers }

  exact : (r : Result Unit FillFault) → ((m : Map (List ℕ)) (maps : List (Map (List ℕ))) → FillUnfailed store.holds store.faults l m maps s0 s1 c0.stores c1.stores → AreQuiet store.faults f0 f1 → FillsBy l m maps r) → FillExactly Calls l s0.files r
  exact r h = λ fs told unfailed. if_told (option_map chunks s0.files) _ (λ m held_is sizes.
      h m (map chunks fs) (record { held = held_is; told = maps_of fs told; shelf = unfailed.0; stores = (unfailed.1).0; sizes = sizes }) (quiet_each store.faults f0 f1 (unfailed.1).1))

  abbrev Told : Query → Refused → List S → Type 0
  Told w r told = (asked : List S) × (length asked ≡ length told) × Refuses store.said store.faults store.may_lack_memory w asked told r

  others : (entry : ℕ) (x y : Option (Map (List ℕ))) → IfSome x (λ m. IfSome y (λ n. (q : List ℕ) → (chunks n q ≡ chunks m q) ⊎ ((b : List ℕ) × (chunks n q ≡ Some b) × IsAmong l entry q)))
      → IfSome x (λ f. IfSome y (λ g. (q : List ℕ) → (chunks g q ≡ chunks f q) ⊎ IsAmong l entry q))
  others entry None y h = tt
  others entry (Some f) None h = tt
  others entry (Some f) (Some g) h = λ q. elim (h q) [
    | inl same ↦ inl same
    | inr new ↦ inr new.2
  ]

  -- where it ended early
  module _ (first : worker ≡ 0) (fault : FillFault) (h : FillStops store l fault s0 s1 c0 c1) where
    lost : (id : ChunkId) (r : Refused) → RefusesEntry store l h.entry id r h.shelf s1 h.chain c1 → IsNotHad Calls l s1.files h.entry id r
    lost id r e = record {
      id_is = e.id_is;
      cache = if_told (option_map chunks s1.files) (λ m. GivesEntry l h.entry m → Rose s0.faults s1.faults)
          (λ m is gives. rose_later s0.faults h.shelf.faults s1.faults h.before.stocks.never_falls (of_told (held_on h.shelf) (λ m. GivesEntry l h.entry m → Rose h.shelf.faults s1.faults) m (ap (option_map chunks) (sym e.kept) ∙ is) e.unfound gives));
      said = subst (λ (n : ℕ). Told (entry_want l h.entry id) r (slice_index_or (each_stores (c1 ∷ f1)) n [])) (sym first) (h.chain.stores, same_length store.place h.chain.stores c1.stores (h.before.stores.places ∙ sym kept.places), e.refused);
      lacks = λ fs told. (r, refl, e.lacks (map chunks fs) (h.before.stores.held ∙ maps_of fs told));
    }

    tells : (f : FillFault) → EntryFails store l h.entry h.shelf s1 h.chain c1 f → FillTells Calls l s1.files h.entry f
    tells (faults.Missing k id) e = (e.0, lost id refused.Missing e.1)
    tells (faults.Damaged k id s x) e = (e.0, lost id (refused.Damaged s x) e.1)
    tells (faults.StoreFault s) e = (e.0, lost e.0 (refused.StoreFault s) e.1)
    tells faults.CacheFault e = (rose_later s0.faults h.shelf.faults s1.faults h.before.stocks.never_falls e.1, λ fs told. gave e.0 (map chunks fs) (h.before.stores.held ∙ maps_of fs told)) where
      gave : LosesEntry store l h.entry h.shelf s1 h.chain c1 ⊎ LosesAhead store l h.entry h.shelf s1 h.chain c1 → (maps : List (Map (List ℕ))) → map store.holds h.chain.stores ≡ map Some maps → SomeGives (kind_of l) (id_of l h.entry) (size_of l h.entry) maps
      gave (inl lost) = lost.gives
      gave (inr lost) = lost.gives
    tells faults.Memory e = tt

    stops : StopsFilling Calls l fault s0.files s1.files
    stops = record {
      entry = h.entry;
      listed = h.listed;
      holds = h.holds;
      others = others h.entry s0.files s1.files h.stocks.chunks;
      tells = tells fault h.fails;
    }

  -- at an entry that the stores of a further worker refused
  module _ (fault : FillFault) (h : StopsAhead store l fault worker s0 s1 c0 c1 f0 f1) where
    told_is : slice_index_or (each_stores (c1 ∷ f1)) worker [] ≡ (slice_index_or f1 h.further c0).stores
    told_is =
        let number : worker ≡ suc h.further = omega (arith, h.number) in
        ap (λ (n : ℕ). slice_index_or (each_stores (c1 ∷ f1)) n []) number ∙ get_or-map (λ (c : Chained S). c.stores) f1 h.further c0 [] h.inside

    lost_ahead : (id : ChunkId) (r : Refused) → RefusesAhead store l h.entry id r (slice_index_or f0 h.further c0) (slice_index_or f1 h.further c0) → IsNotHad Calls l s1.files h.entry id r
    lost_ahead id r e = record {
      id_is = e.id_is;
      cache = if_told (option_map chunks s1.files) (λ m. GivesEntry l h.entry m → Rose s0.faults s1.faults)
          (λ m is gives. rose_later s0.faults h.shelf.faults s1.faults h.before.stocks.never_falls (of_told (held_on h.shelf) (λ m. GivesEntry l h.entry m → Rose h.shelf.faults s1.faults) m (ap (option_map chunks) (sym h.kept) ∙ is) h.unfound gives));
      said = subst (Told (entry_want l h.entry id) r) (sym told_is) (e.chain.stores, length_all_zip (λ a b. AskedOnce (store.asked a) (store.asked b) (id_of l h.entry)) e.chain.stores (slice_index_or f1 h.further c0).stores e.asked.stores, e.refused);
      lacks = λ fs told. (r, refl, e.lacks (map chunks fs) (alike h.further c0 (omega (arith, many, h.inside)) ∙ maps_of fs told));
    }

    tells_ahead : (id : ChunkId) (r : Refused) → RefusesAhead store l h.entry id r (slice_index_or f0 h.further c0) (slice_index_or f1 h.further c0) → FillTells Calls l s1.files h.entry (fill_fault_of h.entry id r)
    tells_ahead id refused.Missing e = (refl, lost_ahead id refused.Missing e)
    tells_ahead id (refused.Damaged s x) e = (refl, lost_ahead id (refused.Damaged s x) e)
    tells_ahead id (refused.StoreFault s) e = (id, lost_ahead id (refused.StoreFault s) e)
    tells_ahead id refused.Memory e = tt

    stops_ahead : StopsFilling Calls l fault s0.files s1.files
    stops_ahead =
        let told = h.refused c0 in
        record {
          entry = h.entry;
          listed = h.listed;
          holds = h.holds;
          others = others h.entry s0.files s1.files h.stocks.chunks;
          tells = subst (FillTells Calls l s1.files h.entry) (sym told.2) (tells_ahead told.0 told.1 told.3);
        }

  ended : (r : Result Unit FillFault) → FillEnds store l s0 s1 c0 c1 f0 f1 worker r → IfErr r (λ fault. EndsFilling Calls l fault s0.files s1.files)
  ended (Ok u) h = tt
  ended (Err fault) (inl (first, inl none)) = inl (none.0, ap (λ (s : Shelf). s.files) none.1)
  ended (Err fault) (inl (first, inr h)) = inr (stops first fault h)
  ended (Err fault) (inr h) = inr (stops_ahead fault h)

  pub index_filled : (r : Result Unit FillFault) → FillEnds store l s0 s1 c0 c1 f0 f1 worker r → Stocks (MayFillCache store.members l c0.stores) s0 s1 → HoldsTo l (filled_to l r) s1
      → ((m : Map (List ℕ)) (maps : List (Map (List ℕ))) → FillUnfailed store.holds store.faults l m maps s0 s1 c0.stores c1.stores → AreQuiet store.faults f0 f1 → FillsBy l m maps r) → IndexFilled Calls l s0.files s1.files r
  index_filled r ends stocks all exactly = record { added = added stocks; holds = all; exactly = exact r exactly; order = ended r ends }

-- ---- seen over more calls

module _ (a b : Evidence) (held : (fs : List (Map (List ℕ))) → b.holds fs → a.holds fs) (quiet : (fs : List (Map (List ℕ))) → b.holds fs → b.unfailed → a.unfailed) where
  one_wider : (l : Listing) (q : List ℕ) (u v : Option (List ℕ)) → (v ≡ u) ⊎ ((t : List ℕ) × (v ≡ Some t) × IsHeldListed a l q t) → (v ≡ u) ⊎ ((t : List ℕ) × (v ≡ Some t) × IsHeldListed b l q t)
  one_wider l q u v (inl same) = inl same
  one_wider l q u v (inr (t, is, (listed, some))) = inr (t, is, (listed, λ fs told. some fs (held fs told)))

  added_wider : (l : Listing) (x y : Option (Map (List ℕ))) → AddsListed a l x y → AddsListed b l x y
  added_wider l x y h = record { tells = h.tells; chunks_are = go x y h.chunks_are; strangers = h.strangers } where
    go : (x y : Option (Map (List ℕ))) → IfSome x (λ f. IfSome y (λ g. (q : List ℕ) → (chunks g q ≡ chunks f q) ⊎ ((t : List ℕ) × (chunks g q ≡ Some t) × IsHeldListed a l q t)))
        → IfSome x (λ f. IfSome y (λ g. (q : List ℕ) → (chunks g q ≡ chunks f q) ⊎ ((t : List ℕ) × (chunks g q ≡ Some t) × IsHeldListed b l q t)))
    go None y h = tt
    go (Some f) None h = tt
    go (Some f) (Some g) h = λ q. one_wider l q (chunks f q) (chunks g q) (h q)

  exactly_wider : (l : Listing) (x : Option (Map (List ℕ))) (r : Result Unit FillFault) → FillExactly a l x r → FillExactly b l x r
  exactly_wider l x r h = λ fs told still. h fs (held fs told) (quiet fs told still)

  pub done_wider : (l : Listing) (x y : Option (Map (List ℕ))) → IndexFilled a l x y (Ok tt) → IndexFilled b l x y (Ok tt)
  done_wider l x y h = record { added = added_wider l x y h.added; holds = h.holds; exactly = exactly_wider l x (Ok tt) h.exactly; order = tt }

  -- what the one refuses for a reason, the other refuses for another one, which names a store by another number
  module _ (N : Refused → Refused → Type 0) (refuse : (c : Query) (r n : Refused) → N r n → a.refused c r → b.refused c n) (none : N refused.Missing refused.Missing)
      (tells : (c : Query) (maps : List (Map (List ℕ))) (r n by_group : Refused) → N r n → r ≡ a.told by_group → LacksAll c maps by_group → n ≡ b.told by_group) (cache : a.cache_failed → b.cache_failed) where
    lost_wider : (l : Listing) (y : Option (Map (List ℕ))) (k : ℕ) (id : ChunkId) (r n : Refused) → N r n → IsNotHad a l y k id r → IsNotHad b l y k id n
    lost_wider l y k id r n is h = record {
      id_is = h.id_is;
      cache = if_told (option_map chunks y) (λ m. GivesEntry l k m → b.cache_failed) (λ m held_is gives. cache (of_told (option_map chunks y) (λ m. GivesEntry l k m → a.cache_failed) m held_is h.cache gives));
      said = refuse _ r n is h.said;
      lacks = λ fs told. (let lack = h.lacks fs (held fs told) in (lack.0, tells (entry_want l k id) (map chunks fs) r n lack.0 is lack.1 lack.2, lack.2));
    }

    tells_wider : (l : Listing) (y : Option (Map (List ℕ))) (k : ℕ) (f g : FillFault) → IsFaultAs N f g → FillTells a l y k f → FillTells b l y k g
    tells_wider l y k (faults.Missing e id) g is h = subst (FillTells b l y k) (sym is) (h.0, lost_wider l y k id refused.Missing refused.Missing none h.1)
    tells_wider l y k (faults.Damaged e id s x) g (t, is, named) h = subst (FillTells b l y k) (sym named) (h.0, lost_wider l y k id (refused.Damaged s x) (refused.Damaged t x) is h.1)
    tells_wider l y k (faults.StoreFault s) g (t, is, named) h = subst (FillTells b l y k) (sym named) (h.0, lost_wider l y k h.0 (refused.StoreFault s) (refused.StoreFault t) is h.1)
    tells_wider l y k faults.CacheFault g is h = subst (FillTells b l y k) (sym is) (cache h.0, λ fs told. h.1 fs (held fs told))
    tells_wider l y k faults.Memory g is h = subst (FillTells b l y k) (sym is) tt

    ends_wider : (l : Listing) (x y : Option (Map (List ℕ))) (f g : FillFault) → IsFaultAs N f g → EndsFilling a l f x y → EndsFilling b l g x y
    ends_wider l x y f g is (inl early) = inl (memory_as N f g early.0 is, early.1)
    ends_wider l x y f g is (inr h) = inr (record { entry = h.entry; listed = h.listed; holds = h.holds; others = h.others; tells = tells_wider l y h.entry f g is h.tells })

    index_wider : (l : Listing) (x y : Option (Map (List ℕ))) (f g : FillFault) → IsFaultAs N f g → IndexFilled a l x y (Err f) → IndexFilled b l x y (Err g)
    index_wider l x y f g is h = record {
      added = added_wider l x y h.added;
      holds = subst (λ (k : ℕ). HoldsFirst l k y) (filled_as N l f g is) h.holds;
      exactly = λ fs told still. if_told (option_map chunks x) _ (λ m held_is sizes. fills_as N l m (map chunks fs) f g is (of_told (option_map chunks x) _ m held_is (h.exactly fs (held fs told) (quiet fs told still)) sizes));
      order = ends_wider l x y f g is h.order;
    }

    -- over a part of a command
    module _ (w0 v0 w v : Storage) (part : IsPart w w0 v0 v) where
      all_wider : (indexes : List (List ℕ)) (x y : Option (Map (List ℕ))) → AllFilled a w0 v0 indexes x y → AllFilled b w v indexes x y
      all_wider [] x y h = h
      all_wider (q ∷ indexes) x y (l, listed, z, filled, rest) = (l, spells_wider w w0 v0 v part q l listed, z, done_wider l x z filled, all_wider indexes z y rest)

      none_wider : (indexes : List (List ℕ)) (x y : Option (Map (List ℕ))) (o p : Outcome) → IsOutcomeAs N o p → NotFilled a w0 v0 indexes x y o → NotFilled b w v indexes x y p
      none_wider [] x y o p named h = absurd h
      none_wider (q ∷ indexes) x y o p named (inl h) = inl (subst (NotSpelled w v q) (spelled_as N w0 v0 q o p named h.0) (not_spelled_wider w w0 v0 v part q o h.0), h.1)
      none_wider (q ∷ indexes) x y o p named (inr (l, listed, inl (fault, is, filled))) =
          let other = fault_as N fault o p is named in
          inr (l, spells_wider w w0 v0 v part q l listed, inl (other.0, other.1, index_wider l x y fault other.0 other.2 filled))
      none_wider (q ∷ indexes) x y o p named (inr (l, listed, inr (z, filled, rest))) = inr (l, spells_wider w w0 v0 v part q l listed, inr (z, done_wider l x z filled, none_wider indexes z y o p named rest))

      pub fills_wider : (indexes : List (List ℕ)) (x y : Option (Map (List ℕ))) (r s : Result Unit Outcome) → IsAnswerAs N r s → FillsEach a w0 v0 indexes x y r → FillsEach b w v indexes x y s
      fills_wider indexes x y (Ok u) s is h = subst (FillsEach b w v indexes x y) (sym is) (all_wider indexes x y h)
      fills_wider indexes x y (Err o) s (p, is, named) h = subst (FillsEach b w v indexes x y) (sym is) (none_wider indexes x y o p named h)

-- the first index filled, and then the rest
fills_next : (over : Evidence) (w v : Storage) (q : List ℕ) (indexes : List (List ℕ)) (l : Listing) (x z y : Option (Map (List ℕ))) (r : Result Unit Outcome)
    → IndexSpells w v q l → IndexFilled over l x z (Ok tt) → FillsEach over w v indexes z y r → FillsEach over w v (q ∷ indexes) x y r
fills_next over w v q indexes l x z y (Ok u) listed filled rest = (l, listed, z, filled, rest)
fills_next over w v q indexes l x z y (Err o) listed filled rest = inr (l, listed, inr (z, filled, rest))

quiet_first : {S : Type 0} (counted : S → ℕ) (b0 b1 b2 : List (List S)) → AllZip (λ a b. NoneFalls (map counted a) (map counted b)) b0 b1 → AllZip (λ a b. NoneFalls (map counted a) (map counted b)) b1 b2
    → AllZip (λ a b. EachQuiet (map counted a) (map counted b)) b0 b2 → AllZip (λ a b. EachQuiet (map counted a) (map counted b)) b0 b1
quiet_first counted [] [] b2 fell falls quiet = tt
quiet_first counted [] (y ∷ b1) b2 fell falls quiet = fell
quiet_first counted (x ∷ b0) [] b2 fell falls quiet = fell
quiet_first counted (x ∷ b0) (y ∷ b1) [] fell falls quiet = absurd falls
quiet_first counted (x ∷ b0) (y ∷ b1) (z ∷ b2) fell falls quiet =
    (each_within (map counted x) (map counted x) (map counted y) (map counted z) (λ k. omega arith) falls.0 quiet.0, quiet_first counted b0 b1 b2 fell.1 falls.1 quiet.1)

quiet_next : {S : Type 0} (counted : S → ℕ) (b0 b1 b2 : List (List S)) → AllZip (λ a b. NoneFalls (map counted a) (map counted b)) b0 b1 → AllZip (λ a b. NoneFalls (map counted a) (map counted b)) b1 b2
    → AllZip (λ a b. EachQuiet (map counted a) (map counted b)) b0 b2 → AllZip (λ a b. EachQuiet (map counted a) (map counted b)) b1 b2
quiet_next counted [] [] b2 fell falls quiet = quiet
quiet_next counted [] (y ∷ b1) b2 fell falls quiet = absurd fell
quiet_next counted (x ∷ b0) [] b2 fell falls quiet = absurd fell
quiet_next counted (x ∷ b0) (y ∷ b1) [] fell falls quiet = falls
quiet_next counted (x ∷ b0) (y ∷ b1) (z ∷ b2) fell falls quiet =
    (each_within (map counted x) (map counted y) (map counted z) (map counted z) fell.0 (λ k. omega arith) quiet.0, quiet_next counted b0 b1 b2 fell.1 falls.1 quiet.1)

-- no count of them has fallen
pub none_fell : {S : Type 0} (store : StoreWords S) (ls : List Listing) (cs ds : List (Chained S)) → AllZip (AsksListings store ls) cs ds → AllZip (λ a b. NoneFalls (map store.faults a) (map store.faults b)) (each_stores cs) (each_stores ds)
none_fell store ls [] [] h = tt
none_fell store ls [] (d ∷ ds) h = h
none_fell store ls (c ∷ cs) [] h = h
none_fell store ls (c ∷ cs) (d ∷ ds) h = ((h.0).keeps.never_fall, none_fell store ls cs ds h.1)

-- the call for the first index, and the calls for the rest. The cache's count of faults goes from m0 to m1 to m2, and the
-- stores of all workers from b0 to b1 to b2
module _ {S : Type 0} (store : StoreWords S) (m0 m1 m2 : ℕ) (b0 b1 b2 : List (List S)) (worker_1 worker_2 : ℕ) (below : m0 ≤ m1) (above : m1 ≤ m2) (same : map store.folder (slice_index_or b1 0 []) ≡ map store.folder (slice_index_or b0 0 []))
    (fell : AllZip (λ a b. NoneFalls (map store.faults a) (map store.faults b)) b0 b1) (falls : AllZip (λ a b. NoneFalls (map store.faults a) (map store.faults b)) b1 b2) (w u v : Storage) (part : IsPart w u v v) where
  abbrev Still : ℕ → ℕ → List (List S) → List (List S) → Type 0
  Still m n old new = Quiet m n × AllZip (λ a b. EachQuiet (map store.faults a) (map store.faults b)) old new

  still_first : Still m0 m2 b0 b2 → Still m0 m1 b0 b1
  still_first quiet = (quiet_within m0 m0 m1 m2 (omega arith) above quiet.0, quiet_first store.faults b0 b1 b2 fell falls quiet.1)

  still_next : Still m0 m2 b0 b2 → Still m1 m2 b1 b2
  still_next quiet = (quiet_within m0 m1 m2 m2 below (omega arith) quiet.0, quiet_next store.faults b0 b1 b2 fell falls quiet.1)

  abbrev first : Evidence
  first = of_calls store b0 b1 worker_1 m0 m1

  abbrev next : Evidence
  next = of_calls store b1 b2 worker_2 m1 m2

  abbrev all : Evidence
  all = of_calls store b0 b2 worker_2 m0 m2

  pub fills_on : (q : List ℕ) (indexes : List (List ℕ)) (l : Listing) (x z y : Option (Map (List ℕ))) (r : Result Unit Outcome) → IndexSpells w v q l → IndexFilled first l x z (Ok tt) → FillsEach next u v indexes z y r → FillsEach all w v (q ∷ indexes) x y r
  fills_on q indexes l x z y r listed filled rest =
      fills_next all w v q indexes l x z y r listed
      (done_wider first all (λ fs told. told) (λ fs told quiet. still_first quiet) l x z filled)
      (fills_wider next all (λ fs told. same ∙ told) (λ fs told quiet. still_next quiet) IsSame (λ c x n is h. subst (next.refused c) (sym is) h) refl (λ q maps x n by_group is same lacks. is ∙ same) (rose_later m0 m1 m2 below) u v w v part indexes z y r r (same_answer r) rest)

-- how filling by an index was answered
pub fill_stopped : (over : Evidence) (l : Listing) (x y : Option (Map (List ℕ))) (r : Result Unit FillFault) (o : Outcome) → answer_of_fill r ≡ Err o → IndexFilled over l x y r
    → (fault : FillFault) × (o ≡ outcome_of_fill fault) × IndexFilled over l x y (Err fault)
fill_stopped over l x y (Ok u) o is filled = absurd (cc)
fill_stopped over l x y (Err fault) o is filled = (fault, sym (ap outcome_of is), filled)

pub fill_passed : (over : Evidence) (l : Listing) (x y : Option (Map (List ℕ))) (r : Result Unit FillFault) (u : Unit {0}) → answer_of_fill r ≡ Ok u → IndexFilled over l x y r → IndexFilled over l x y (Ok tt)
fill_passed over l x y (Ok t) u is filled = filled
fill_passed over l x y (Err fault) u is filled = absurd (cc)

-- ---- the command

pub cache_ends : (sure : Bool) (groups : List (List Location)) (again : ℕ) (cache : List ℕ) (most : ℕ) (indexes : List (List ℕ)) (k j : DialState) (p : Output) (b c d e : Disk) (r : Result Unit Outcome)
    → SourcesOpened (stores_of groups) b (Ok tt) c → CacheOpened (stores_of groups) (Some cache) c (Ok tt) d → FilledBetween sure groups again cache most indexes (storage d k) (storage e j) r → CacheEnds sure groups again cache most indexes (world b k p) r (world e j p)
cache_ends sure groups again cache most indexes k j p b c d e (Ok u) opened taken filled =
    record { disk = c; dial = k; out = p; gave = tt; did = (opened, refl, refl); then = record { disk = d; dial = k; out = p; gave = tt; did = (taken, refl, refl); then = (filled, refl) } }
cache_ends sure groups again cache most indexes k j p b c d e (Err o) opened taken filled =
    inr (record { disk = c; dial = k; out = p; gave = tt; did = (opened, refl, refl); then = inr (record { disk = d; dial = k; out = p; gave = tt; did = (taken, refl, refl); then = (filled, refl) }) })

-- the stores weren't opened, or then the folder of the cache wasn't reached
pub not_reached : (sure : Bool) (groups : List (List Location)) (again : ℕ) (cache : List ℕ) (most : ℕ) (indexes : List (List ℕ)) (k : DialState) (p : Output) (b e : Disk) (o : Outcome)
    → SourcesOpened (stores_of groups) b (Err o) e ⊎ ((m : Disk) × SourcesOpened (stores_of groups) b (Ok tt) m × CacheOpened (stores_of groups) (Some cache) m (Err o) e) → CacheEnds sure groups again cache most indexes (world b k p) (Err o) (world e k p)
not_reached sure groups again cache most indexes k p b e o (inl none) = inl (none, refl, refl)
not_reached sure groups again cache most indexes k p b e o (inr (m, opened, none)) = inr (record { disk = m; dial = k; out = p; gave = tt; did = (opened, refl, refl); then = inl (none, refl, refl) })

-- ---- when all is given back

held_so : (sure : Bool) (o : Option (Map (Map (List ℕ)))) (names : List (List Location)) (xs : List (Option (Map (List ℕ)))) (fs : List (Map (List ℕ))) → IfSome o (λ n. xs ≡ map (group_files sure n) names) → IsSomeAnd o (λ n. map (group_files sure n) names ≡ map Some fs) → xs ≡ map Some fs
held_so sure None names xs fs found told = absurd told
held_so sure (Some n) names xs fs found told = found ∙ told

-- the disk was read while the cache was filled, which was s and became t; then its folder was given back, and the groups
-- of stores
module _ (cache : List ℕ) (s t : Shelf) (d0 b c e : Disk) (i k j : DialState) (names : List (List Location))
    (s_is : s.place ≡ cache) (t_is : t.place ≡ cache) (reads : Reads d0 b) (gives : CacheGiven (Some t) b c) (closes : ConsultsStores (stores_of names) (storage c k) (storage e j))
    (part : IsPart (storage (with_cache (Some s) d0) i) (storage d0 i) (storage b k) (storage e j)) where
  abbrev d : Disk
  d = with_cache (Some s) d0

  abbrev w : Storage
  w = storage d i

  abbrev v : Storage
  v = storage e j

  gave : Adds b c
  gave = given_adds (Some t) b c gives

  opened : (q : List ℕ) → count_at d.folder_counts q ≤ count_at c.folder_counts q
  opened q = omega (arith, reads.folder_counts q, gave.folder_counts q)

  all_adds : Adds d e
  all_adds = record {
    files = closes.0.disk.files ∙ gave.files ∙ reads.files;
    counts = λ q. omega (arith, reads.counts q, gave.counts q, closes.0.disk.counts q);
    folder_counts = λ q. omega (arith, opened q, closes.0.disk.folder_counts q);
    known = λ q is. closes.0.disk.known q (gave.known q (reads.known q is));
    folder_known = λ q is. closes.0.disk.folder_known q (gave.folder_known q (reads.folder_known q is));
  }

  cache_at : Rose 0 t.faults → FolderRose d e t.place
  cache_at rose =
      rose_longer (count_at d.folder_counts t.place) (count_at c.folder_counts t.place) (count_at e.folder_counts t.place) (closes.0.disk.folder_counts t.place)
      (given_rose (count_at d.folder_counts t.place) (count_at b.folder_counts t.place) (count_at c.folder_counts t.place) t.faults (reads.folder_counts t.place) gives.1.folder_counts.added rose)

  cache_failed : Rose 0 t.faults → FolderRose d e cache
  cache_failed rose = subst (λ (q : List ℕ). FolderRose d e q) t_is (cache_at rose)

  cache_quiet : DiskQuiet d e → Quiet 0 t.faults
  cache_quiet quiet =
      let here = quiet.folders t.place in
      let between : Quiet (count_at d.folder_counts t.place) (count_at c.folder_counts t.place) = record { same = omega (arith, here.same, closes.0.disk.folder_counts t.place); below = omega (arith, here.below, closes.0.disk.folder_counts t.place) } in
      given_quiet (count_at d.folder_counts t.place) (count_at b.folder_counts t.place) (count_at c.folder_counts t.place) t.faults (reads.folder_counts t.place) gives.1.folder_counts.added between

  back : e.folders ≡ option_map (λ (m : Map (Map (List ℕ))). at_name m cache t.files) d.folders
  back = closes.0.disk.folders ∙ gives.0 ∙ ap (option_map (λ (m : Map (Map (List ℕ))). at_name m t.place t.files)) reads.folders
      ∙ ap (λ (q : List ℕ). option_map (λ (m : Map (Map (List ℕ))). at_name m q t.files) d0.folders) (t_is ∙ sym s_is) ∙ put_twice d0.folders s.place s.files t.files
      ∙ ap (λ (q : List ℕ). option_map (λ (m : Map (Map (List ℕ))). at_name m q t.files) d.folders) s_is

  module _ {L D K : Type 0} (look : LookWords L) (state : D → DialState) (again : ℕ) where
    abbrev Words : StoreWords (Grouped (AnyStore L D K))
    Words = group_words look state

    -- the groups of one worker, which were new, and given back
    pub record IsBack (before after : List (Grouped (AnyStore L D K))) : Type 0 where
      pub fresh : All (IsFresh (source_faults look.faults state) again) before
      pub located : map (locations_in look.place) after ≡ names
      pub tries : All (λ g. g.retries ≡ again) after
      pub same : map (files_in look.files) after ≡ map (files_in look.files) before
      pub told_same : map (told_files look.never_fails look.files) after ≡ map (told_files look.never_fails look.files) before
      pub found : IfSome (with_cache (Some s) d0).folders (λ m. map (files_in look.files) before ≡ map (map (location_files m)) names)
      pub gained : All (IsGroupGiven look.place look.faults state (storage c k) (storage e j)) after

    module _ (before after : List (Grouped (AnyStore L D K))) (is : IsBack before after) where
      -- as many groups as before
      many : length before ≡ length names
      many = sym (length-map before (told_files look.never_fails look.files)) ∙ ap length (sym is.told_same) ∙ length-map after (told_files look.never_fails look.files) ∙ sym (length-map after (locations_in look.place)) ∙ ap length is.located

      given_all : All (IsGroupGiven look.place look.faults state w v) after
      given_all = λ n g lt. group_given_earlier look.place look.faults state w (storage c k) v opened part.during closes.0.dial (slice_index_or after n g) (is.gained n g lt)

      stand : All (Standing look.never_fails look.files look.place look.faults state again w v) after
      stand = all_groups_stand look.never_fails look.files look.place look.faults state again w v after names is.located (found_after look.files d.folders before after names is.same is.found) is.tries given_all

      held : (fs : List (Map (List ℕ))) → (of_command look.never_fails again w v names cache).holds fs → map (told_files look.never_fails look.files) before ≡ map Some fs
      held fs told =
          let first = fresh_first (source_faults look.faults state) again before is.fresh in
          held_so look.never_fails d.folders names (map (told_files look.never_fails look.files) before) fs (groups_tell look.never_fails look.files d.folders before names first is.found) told

      quiet : (fs : List (Map (List ℕ))) → (of_command look.never_fails again w v names cache).holds fs → DiskQuiet d e → EachQuiet (map (λ g. g.failed) before) (map (λ g. g.failed) after)
      quiet fs told still =
          groups_quiet look.never_fails look.files look.place look.faults state w v names fs before after (fresh_counts (source_faults look.faults state) again before names many is.fresh) (is.told_same ∙ held fs told) given_all still.folders

      refuse : (q : Query) (r n : Refused) → IsTold names r n
          → (asked : List (Grouped (AnyStore L D K))) × (length asked ≡ length after) × Refuses Words.said Words.faults Words.may_lack_memory q asked after r → HaveLackedIn again q w v names n
      refuse q r n told h =
          told_lack names again w v q r n told
          (groups_lack (locations_in look.place) (group_told false look.never_fails (chunks_in look.files) (said_in look.files state)) (λ g. g.failed) again w v names true q r h.0 after h.1 is.located stand h.2)

    all_quiet : (fs : List (Map (List ℕ))) → (of_command look.never_fails again w v names cache).holds fs → DiskQuiet d e → (befores afters : List (List (Grouped (AnyStore L D K)))) → AllZip IsBack befores afters → AllZip (λ x y. EachQuiet (map (λ g. g.failed) x) (map (λ g. g.failed) y)) befores afters
    all_quiet fs told still [] [] backs = tt
    all_quiet fs told still [] (y ∷ afters) backs = backs
    all_quiet fs told still (x ∷ befores) [] backs = backs
    all_quiet fs told still (x ∷ befores) (y ∷ afters) backs = (quiet x y backs.0 fs told still, all_quiet fs told still befores afters backs.1)

    -- the groups of all workers, of which the first are `before`, and that whose stores refused a chunk
    pub filled_between : (before : List (Grouped (AnyStore L D K))) (befores afters : List (List (Grouped (AnyStore L D K)))) → AllZip IsBack (before ∷ befores) afters → (worker : ℕ) → worker < length afters → (most : ℕ) (indexes : List (List ℕ)) (r : Result Unit Outcome)
        → FillsEach (of_calls (group_words look state) (before ∷ befores) afters worker 0 t.faults) (storage d0 i) (storage b k) indexes s.files t.files r
        → (IsTrue (are_files indexes) → k ≡ i) → GetsListed w v again most indexes names → FilledBetween look.never_fails names again cache most indexes w v (answer_of_stores names r)
    filled_between before befores [] backs worker less most indexes r h undialed gets = absurd backs
    filled_between before befores (after ∷ afters) backs worker less most indexes r h undialed gets =
        let their : List (Grouped (AnyStore L D K)) = slice_index_or (after ∷ afters) worker [] in
        let was : List (Grouped (AnyStore L D K)) = slice_index_or (before ∷ befores) worker [] in
        let as_many : length (before ∷ befores) ≡ length (after ∷ afters) = length_all_zip IsBack (before ∷ befores) (after ∷ afters) backs in
        let is : IsBack was their = AllZip-get_or IsBack (before ∷ befores) (after ∷ afters) worker [] [] backs (omega (arith, less, as_many)) in
        record {
          held = s.files;
          was = subst (λ (q : List ℕ). IfSome d.folders (λ m. m q ≡ s.files)) s_is (was_put d0.folders s.place s.files);
          now = t.files;
          filled = fills_wider (of_calls (group_words look state) (before ∷ befores) (after ∷ afters) worker 0 t.faults) (of_command look.never_fails again w v names cache) (held before after backs.0)
              (λ fs told still. (cache_quiet still, all_quiet fs told still (before ∷ befores) (after ∷ afters) backs))
              (IsTold names) (refuse was their is) refl (λ q maps x y by_group is same lacks. is ∙ ap (refused_of_stores names) same ∙ lacks_number names q maps by_group lacks) cache_failed
              (storage d0 i) (storage b k) w v part indexes s.files t.files r (answer_of_stores names r) (told_answer names r) h;
          back = back;
          adds = all_adds;
          dials = dials_twice i k j part.during closes.0.dial;
          undialed = λ both. let each = both_true (are_folders (stores_of names)) (are_files indexes) both in closes.1 each.0 ∙ undialed each.1;
          asks = gets;
        }
