-- Kits that are opened and given back, one after the other.
use Rattle.std.proofs.Common.{◌≡◌, ◌≢◌, ◌∙◌, is_some, true, ◌++◌, ℕ, ◌+◌, ◌<◌, ◌≤◌, ◌⊎◌, List, [], ◌∷◌, length, map, slice_index_or, All, IsTrue, Option, Some, None, IfSome, IsSome, refl, sym, ap, subst, inl, inr, arith}
use Rattle.std.proofs.lemmas.Bool.{true≢false}
use Rattle.std.proofs.lemmas.List.{append-nil}
use Rattle.std.proofs.lemmas.List.Elements.{All-cons, All-nil, All-tail}
use Rattle.std.specs.List.{AllZip, fold}
use Rattle.std.specs.Map.{count_at}
use Rattle.chunk_sources.specs.declared.kit.Kit.{Kit}
use Rattle.command_steps.proofs.Asking.{none_dialed}
use Rattle.cache_store.specs.Shelves.{Shelf}
use Rattle.command_steps.proofs.Consulted.{consults_twice, reads_none}
use Rattle.command_steps.proofs.Dialed.{dials_none}
use Rattle.command_steps.proofs.Given.{all_later}
use Rattle.command_steps.proofs.InTurn.{all_last, turn_consults}
use Rattle.command_steps.proofs.Numbers.{rose_later, rose_longer}
use Rattle.command_steps.proofs.SeedsOpened.{all_known_later}
use Rattle.command_steps.proofs.SeedsUsed.{viewed_names}
use Rattle.command_steps.proofs.Used.{uses_none, uses_twice, uses_within}
use Rattle.command_groups.proofs.Asked.{groups_turn_dialed}
use Rattle.command_groups.specs.Groups.{stores_of}
use Rattle.command_groups.specs.Opened.{AreUnused, IsFresh, files_in, locations_in, with_group}
use Rattle.command_steps.specs.AnyStores.{IsKnown, location_in, source_faults, source_files}
use Rattle.command_steps.specs.Asking.{EachDialed, WorkersDialed}
use Rattle.command_steps.specs.Cache.{folders_with, with_cache}
use Rattle.command_steps.specs.Seeds.{IsViewed, SeedsKnown, label_in}
use Rattle.command_steps.specs.Sources.{Consults, Storage, location_files, storage}
use Rattle.command_steps.specs.Stores.{are_folders}
use Rattle.command_steps.specs.Uses.{IsNoneOf, Uses, folders_among}
use Rattle.command_steps.specs.declared.any_store.AnyStore.{AnyStore}
use Rattle.command_steps.specs.declared.any_store.AnyStore.TheVariants as source
use Rattle.command_words.specs.declared.command.Location.{Location}
use Rattle.command_words.specs.declared.command.Location.TheVariants as locations
use Rattle.command_worlds.specs.Worlds.{FileRose, Reads}
use Rattle.dsy_base.proofs.Counts.{at_other}
use Rattle.dsy_base.specs.Bytes.{Held}
use Rattle.dsy_base.specs.Counts.{raised}
use Rattle.dsy_base.specs.Disk.{Disk}
use Rattle.dsy_base.specs.Links.{DialState, Traffic, with_all}
use Rattle.dsy_base.specs.Maps.{Map, at_name}
use Rattle.dsy_base.specs.declared.look.Look.{Ghosts as LookWords}
use Rattle.dsy_base.specs.declared.view.View.{Ghosts as ViewWords}
use Rattle.extract_command.specs.Kits.{AreGivenBack, AreOpened, CanGiveKit, IsKitGiven, IsKitOpened, UsesNames, kit_groups, kit_names, kit_stores}
use Rattle.extract_command.specs.declared.stores.Stores.{Stores}
use Rattle.store_chain.proofs.Pairs.{cons_head, cons_tail}
use Rattle.store_group.specs.Groups.{Grouped}
use Rattle.extract_plan.specs.Seeds.{faults_in, seed_held}
use Rattle.extract_plan.specs.declared.seed.Seed.{Seed}
use Rattle.http_read.specs.Asks.{Server}

-- ---- what was opened earlier, and before more was read

viewed_over : (d b c e : Disk) → Reads d b → Reads c e → (q : List ℕ) (o : Option Held) → IsViewed b c q o → IsViewed d e q o
viewed_over d b c e r s q (Some h) v = (subst (λ f. IfSome f (λ m. (t : List ℕ) × (m q ≡ Some t) × (h.bytes ≡ Some t))) r.files v.0, v.1, v.2)
viewed_over d b c e r s q None (inl absent) = inl (subst (λ f. IfSome f (λ m. m q ≡ None)) r.files absent)
viewed_over d b c e r s q None (inr rose) =
    let first = rose_later (count_at d.file_counts q) (count_at b.file_counts q) (count_at c.file_counts q) (r.counts q) rose in
    inr (rose_longer (count_at d.file_counts q) (count_at c.file_counts q) (count_at e.file_counts q) (s.counts q) first)

pub views_over : (d b c e : Disk) → Reads d b → Reads c e → (names : List (List ℕ)) (views : List (Option Held)) → AllZip (IsViewed b c) names views → AllZip (IsViewed d e) names views
views_over d b c e r s [] [] zip = tt
views_over d b c e r s [] (o ∷ views) zip = absurd zip
views_over d b c e r s (q ∷ names) [] zip = absurd zip
views_over d b c e r s (q ∷ names) (o ∷ views) zip = (viewed_over d b c e r s q o zip.0, views_over d b c e r s names views zip.1)

-- views of the same images hold the same, where opening them didn't fail
module _ (d b : Disk) (m : Map (List ℕ)) (told : d.files ≡ Some m) (quiet : (q : List ℕ) → FileRose d b q → ⊥) where
  absent_there : (q : List ℕ) (h : Held) → IsViewed d b q (Some h) → IsViewed d b q None → ⊥
  absent_there q h is (inl absent) =
      let none : m q ≡ None = subst (λ f. IfSome f (λ m. m q ≡ None)) told absent in
      let there : (t : List ℕ) × (m q ≡ Some t) × (h.bytes ≡ Some t) = subst (λ f. IfSome f (λ m. (t : List ℕ) × (m q ≡ Some t) × (h.bytes ≡ Some t))) told is.0 in
      let no : None ≡ Some there.0 = sym none ∙ there.1 in
      absurd (cc)
  absent_there q h is (inr rose) = quiet q rose

  view_alike : (q : List ℕ) (o p : Option Held) → IsViewed d b q o → IsViewed d b q p → o ≡ p
  view_alike q None None u v = refl
  view_alike q None (Some h) u v = absurd (absent_there q h v u)
  view_alike q (Some h) None u v = absurd (absent_there q h u v)
  view_alike q (Some h) (Some k) u v =
      let one : (t : List ℕ) × (m q ≡ Some t) × (h.bytes ≡ Some t) = subst (λ f. IfSome f (λ m. (t : List ℕ) × (m q ≡ Some t) × (h.bytes ≡ Some t))) told u.0 in
      let two : (t : List ℕ) × (m q ≡ Some t) × (k.bytes ≡ Some t) = subst (λ f. IfSome f (λ m. (t : List ℕ) × (m q ≡ Some t) × (k.bytes ≡ Some t))) told v.0 in
      let same : Some one.0 ≡ Some two.0 = sym one.1 ∙ two.1 in
      let bytes : h.bytes ≡ k.bytes = one.2 ∙ same ∙ sym two.2 in
      let here : length one.0 ≡ h.size = subst (λ o. IfSome o (λ t. length t ≡ h.size)) one.2 u.2 in
      let there : length two.0 ≡ k.size = subst (λ o. IfSome o (λ t. length t ≡ k.size)) two.2 v.2 in
      let long : length one.0 ≡ length two.0 = cc in
      let size : h.size ≡ k.size = sym here ∙ long ∙ there in
      let name : h.name ≡ k.name = u.1 ∙ sym v.1 in
      ap (λ (x : Option (List ℕ)). Some (record { bytes = x; size = h.size; name = h.name })) bytes
      ∙ ap (λ (x : ℕ). Some (record { bytes = k.bytes; size = x; name = h.name })) size
      ∙ ap (λ (x : List ℕ). Some (record { bytes = k.bytes; size = k.size; name = x })) name

  pub views_alike : (names : List (List ℕ)) (xs ys : List (Option Held)) → AllZip (IsViewed d b) names xs → AllZip (IsViewed d b) names ys → xs ≡ ys
  views_alike [] [] [] u v = refl
  views_alike [] (x ∷ xs) ys u v = absurd u
  views_alike [] [] (y ∷ ys) u v = absurd v
  views_alike (q ∷ names) [] ys u v = absurd u
  views_alike (q ∷ names) (x ∷ xs) [] u v = absurd v
  views_alike (q ∷ names) (x ∷ xs) (y ∷ ys) u v = cc (view_alike q x y u.0 v.0, views_alike names xs ys u.1 v.1)

-- ---- connections of stores that weren't asked

abbrev Nothing : Server → List Traffic → Type 0
Nothing s ended = ended ≡ []

-- nothing more has ended, or what has isn't told
joined_nothing : (a b e : Option (List Traffic)) → IfSome e (λ ended. ended ≡ []) → (with_all (with_all a b) e ≡ with_all a b) ⊎ (e ≡ None)
joined_nothing a b None none = inr refl
joined_nothing None b (Some e) none = inl refl
joined_nothing (Some a) None (Some e) none = inl refl
joined_nothing (Some a) (Some b) (Some e) none = inl (ap (λ (l : List Traffic). Some ((a ++ b) ++ l)) none ∙ ap Some (append-nil (a ++ b)))

nothing_to : (a : Option (List Traffic)) → with_all a None ≡ None
nothing_to None = refl
nothing_to (Some a) = refl

-- all of it a second time
shifted : (stores : List Location) (a b e : Option (List Traffic)) → IfSome e (λ ended. ended ≡ []) → EachDialed Nothing stores a b → EachDialed Nothing stores (with_all a e) (with_all b e)
shifted stores a b None none dialed = subst (λ o. EachDialed Nothing stores o (with_all b None)) (sym (nothing_to a)) (subst (λ o. EachDialed Nothing stores None o) (sym (nothing_to b)) (none_dialed Nothing (λ s. refl) stores None))
shifted stores a b (Some e) none dialed = subst (λ o. EachDialed Nothing stores o (with_all b (Some e))) (sym (same a)) (subst (λ o. EachDialed Nothing stores a o) (sym (same b)) dialed) where
  same : (o : Option (List Traffic)) → with_all o (Some e) ≡ o
  same None = refl
  same (Some t) = ap (λ (l : List Traffic). Some (t ++ l)) none ∙ ap Some (append-nil t)

pub nothing_twice : (stores : List Location) (a b c : Option (List Traffic)) → EachDialed Nothing stores a b → EachDialed Nothing stores b c → EachDialed Nothing stores a c
nothing_twice [] a b c u v = v ∙ u
nothing_twice (locations.Folder q ∷ stores) a b c u v = nothing_twice stores a b c u v
nothing_twice (locations.Http host port prefix ∷ stores) a b c u v =
    let rest = nothing_twice stores (with_all (with_all a u.0) v.0) (with_all b v.0) c (shifted stores (with_all a u.0) b v.0 v.1 u.2) v.2 in
    elim (joined_nothing a u.0 v.0 v.1) [
      | inl same ↦ (u.0, u.1, subst (λ o. EachDialed Nothing stores o c) same rest)
      | inr none ↦
          let last : with_all (with_all a u.0) v.0 ≡ with_all a None = ap (with_all (with_all a u.0)) none ∙ nothing_to (with_all a u.0) ∙ sym (nothing_to a) in
          (None, tt, subst (λ o. EachDialed Nothing stores o c) last rest)
    ]

-- what was opened tells its files where folders are told
abbrev pub LooksTell : {L : Type 0} → LookWords L → Option (Map (Map (List ℕ))) → Type 0
LooksTell {L} look folders = (m : Map (Map (List ℕ))) → folders ≡ Some m → (l : L) → is_some (look.files l) ≡ true

module _ {L V D K : Type 0} (look : LookWords L) (view : ViewWords V) where
  -- what can be given back can be so where no number was forgotten since
  pub give_later : (d e : Disk) → ((q : List ℕ) → IsSome (d.folder_counts q) → IsSome (e.folder_counts q)) → ((q : List ℕ) → IsSome (d.file_counts q) → IsSome (e.file_counts q)) → (k : Kit (Grouped (AnyStore L D K)) V)
      → CanGiveKit look view d k → CanGiveKit look view e k
  give_later d e folders files k can = record {
    stores = all_later d.folder_counts e.folder_counts folders (kit_stores look view k) can.stores;
    seeds = all_known_later view.held d.file_counts e.file_counts files k.seeds.items can.seeds;
  }

  pub all_give_later : (d e : Disk) → Reads d e → (kits : List (Kit (Grouped (AnyStore L D K)) V)) → All (CanGiveKit look view d) kits → All (CanGiveKit look view e) kits
  all_give_later d e r kits can = λ n k lt. give_later d e r.folder_known r.known (slice_index_or kits n k) (can n k lt)

  -- the last was given back, so those before it can be
  pub rest_can : (d e : Disk) (kits rest : List (Kit (Grouped (AnyStore L D K)) V)) (k : Kit (Grouped (AnyStore L D K)) V) → kits ≡ rest ++ k ∷ [] → All (CanGiveKit look view d) kits → Reads d e → All (CanGiveKit look view e) rest
  rest_can d e kits rest k is can read = all_give_later d e read rest (all_last (CanGiveKit look view d) kits rest k is can).0

  -- the last was let go, and then those before it
  pub dropped_first : (names folders : List (List ℕ)) (kits rest : List (Kit (Grouped (AnyStore L D K)) V)) (k : Kit (Grouped (AnyStore L D K)) V) (d b e : Disk) → kits ≡ rest ++ k ∷ [] → All (UsesNames look view names folders) kits
      → Uses (kit_names look view k) (folders_among (kit_stores look view k)) d b → (All (UsesNames look view names folders) rest → Uses names folders b e) → Uses names folders d e
  dropped_first names folders kits rest k d b e is named first others =
      let both = all_last (UsesNames look view names folders) kits rest k is named in
      uses_twice names folders d b e (uses_within (kit_names look view k) (folders_among (kit_stores look view k)) names folders d b both.1.seeds both.1.stores first) (others both.0)

  -- stores that were opened while a folder wasn't there hold the same with it
  still_found : (m : Map (Map (List ℕ))) (q : List ℕ) (o : Option (Map (List ℕ))) → m q ≡ None → ((l : L) → is_some (look.files l) ≡ true) → (xs : List (AnyStore L D K)) → map (source_files look.files) xs ≡ map (location_files m) (map (location_in look.place) xs)
      → map (source_files look.files) xs ≡ map (location_files (at_name m q o)) (map (location_in look.place) xs)
  still_found m q o gone tell [] same = refl
  still_found m q o gone tell (source.Folder l ∷ xs) same =
      let here : look.files l ≡ m (look.place l) = cc in
      let rest : map (source_files look.files) xs ≡ map (location_files m) (map (location_in look.place) xs) = cc in
      let apart : look.place l ≢ q = λ is. true≢false (sym (tell l) ∙ ap is_some (here ∙ ap m is ∙ gone)) in
      let one : look.files l ≡ at_name m q o (look.place l) = here ∙ sym (at_other m q o (look.place l) apart) in
      let others = still_found m q o gone tell xs rest in
      cc (one, others)
  still_found m q o gone tell (source.Http r ∷ xs) same =
      let rest : map (source_files look.files) xs ≡ map (location_files m) (map (location_in look.place) xs) = cc in
      ap (λ (l : List (Option (Map (List ℕ)))). None ∷ l) (still_found m q o gone tell xs rest)

  -- so do groups
  all_found : (m : Map (Map (List ℕ))) (q : List ℕ) (o : Option (Map (List ℕ))) → m q ≡ None → ((l : L) → is_some (look.files l) ≡ true) → (xs : List (Grouped (AnyStore L D K))) → map (files_in look.files) xs ≡ map (map (location_files m)) (map (locations_in look.place) xs)
      → map (files_in look.files) xs ≡ map (map (location_files (at_name m q o))) (map (locations_in look.place) xs)
  all_found m q o gone tell [] same = refl
  all_found m q o gone tell (g ∷ xs) same =
      let files = files_in look.files in
      let named = locations_in look.place in
      let one = still_found m q o gone tell g.stores (cons_head (files g) (map (location_files m) (named g)) (map files xs) (map (map (location_files m)) (map named xs)) same) in
      let others = all_found m q o gone tell xs (cons_tail (files g) (map (location_files m) (named g)) (map files xs) (map (map (location_files m)) (map named xs)) same) in
      λ i. one i ∷ others i

  found_with : (o : Option Shelf) (folders : Option (Map (Map (List ℕ)))) (xs : List (Grouped (AnyStore L D K))) (groups : List (List Location)) → IfSome o (λ s. IfSome folders (λ m. m s.place ≡ None)) → LooksTell look folders → map (locations_in look.place) xs ≡ groups
      → IfSome folders (λ m. map (files_in look.files) xs ≡ map (map (location_files m)) groups) → IfSome (folders_with o folders) (λ m. map (files_in look.files) xs ≡ map (map (location_files m)) groups)
  found_with None folders xs groups gone tell located found = found
  found_with (Some s) None xs groups gone tell located found = tt
  found_with (Some s) (Some m) xs groups gone tell located found =
      subst (λ (ns : List (List Location)). map (files_in look.files) xs ≡ map (map (location_files (at_name m s.place s.files))) ns) located
      (all_found m s.place s.files gone (tell m refl) xs (subst (λ (ns : List (List Location)). map (files_in look.files) xs ≡ map (map (location_files m)) ns) (sym located) found))

  module _ (state : D → DialState) where
    -- what was opened over a later disk, and before more was read
    pub opened_over : (d b c e : Disk) → Reads d b → Reads c e → (stores : Stores) (images : List (List ℕ)) (k : Kit (Grouped (AnyStore L D K)) V) → IsKitOpened look view state b c stores images k → IsKitOpened look view state d e stores images k
    opened_over d b c e r s stores images k is = record {
      found = subst (λ f. IfSome f (λ m. map (files_in look.files) k.chain.stores ≡ map (map (location_files m)) stores.groups)) r.folders is.found;
      located = is.located;
      fresh = is.fresh;
      unused = is.unused;
      viewed = views_over d b c e r s images (map (seed_held view.held) k.seeds.items) is.viewed;
      unfailed = is.unfailed;
      given = give_later c e s.folder_known s.known k is.given;
    }

    pub all_opened_over : (d b c e : Disk) → Reads d b → Reads c e → (stores : Stores) (images : List (List ℕ)) (kits : List (Kit (Grouped (AnyStore L D K)) V)) → AreOpened look view state b c stores images kits → AreOpened look view state d e stores images kits
    all_opened_over d b c e r s stores images kits are = λ n k lt. opened_over d b c e r s stores images (slice_index_or kits n k) (are n k lt)

    -- over the folders with that of a cache, which none of their stores is: it was taken when they were opened
    opened_with : (o : Option Shelf) (d b : Disk) (stores : Stores) (images : List (List ℕ)) (kits : List (Kit (Grouped (AnyStore L D K)) V)) → IfSome o (λ s. IfSome d.folders (λ m. m s.place ≡ None)) → LooksTell look d.folders → AreOpened look view state d b stores images kits
        → AreOpened look view state (with_cache o d) b stores images kits
    opened_with o d b stores images kits gone tell are = λ n k lt. let is = are n k lt in record {
      found = found_with o d.folders (slice_index_or kits n k).chain.stores stores.groups gone tell is.located is.found;
      located = is.located;
      fresh = is.fresh;
      unused = is.unused;
      viewed = is.viewed;
      unfailed = is.unfailed;
      given = is.given;
    }

    -- the first kit's stores and seeds were opened, and then the others
    pub opened_kits : (o : Option Shelf) (d c b : Disk) → Reads d c → Reads c b → (stores : Stores) (images : List (List ℕ)) (xs : List (Grouped (AnyStore L D K))) (seeds : List (Seed V)) (k : Kit (Grouped (AnyStore L D K)) V) (more : List (Kit (Grouped (AnyStore L D K)) V))
        → k.chain.stores ≡ xs → k.seeds.items ≡ seeds → map (locations_in look.place) xs ≡ stores.groups
        → IfSome (with_cache o d).folders (λ m. map (files_in look.files) xs ≡ map (map (location_files m)) (map (locations_in look.place) xs)) → All (IsFresh (source_faults look.faults state) stores.retries) xs → All (AreUnused state) xs
        → All (IsKnown d.folder_counts) (stores_of (map (locations_in look.place) xs)) → AllZip (IsViewed d c) images (map (seed_held view.held) seeds) → map (faults_in view.faults) seeds ≡ map {B = ℕ} (λ s. 0) seeds → SeedsKnown view.held c.file_counts seeds
        → IfSome o (λ s. IfSome d.folders (λ m. m s.place ≡ None)) → LooksTell look d.folders → AreOpened look view state c b stores images more → AreOpened look view state (with_cache o d) b stores images (k ∷ more)
    opened_kits o d c b r s stores images xs seeds k more stores_are seeds_are at found fresh unused known zip unfailed seeds_known gone tell are =
        let located : kit_groups look view k ≡ map (locations_in look.place) xs = ap (map (locations_in look.place)) stores_are in
        All-cons (IsKitOpened look view state (with_cache o d) b stores images) k more
        (record {
          found = subst (λ (l : List (Grouped (AnyStore L D K))). IfSome (with_cache o d).folders (λ m. map (files_in look.files) l ≡ map (map (location_files m)) stores.groups)) (sym stores_are)
              (subst (λ (ns : List (List Location)). IfSome (with_cache o d).folders (λ m. map (files_in look.files) xs ≡ map (map (location_files m)) ns)) at found);
          located = located ∙ at;
          fresh = subst (λ (l : List (Grouped (AnyStore L D K))). All (IsFresh (source_faults look.faults state) stores.retries) l) (sym stores_are) fresh;
          unused = subst (λ (l : List (Grouped (AnyStore L D K))). All (AreUnused state) l) (sym stores_are) unused;
          viewed = views_over d d c b (reads_none d) s images (map (seed_held view.held) k.seeds.items) (subst (λ (l : List (Seed V)). AllZip (IsViewed d c) images (map (seed_held view.held) l)) (sym seeds_are) zip);
          unfailed = subst (λ (l : List (Seed V)). map (faults_in view.faults) l ≡ map {B = ℕ} (λ s. 0) l) (sym seeds_are) unfailed;
          given = record {
            stores = subst (λ (l : List (List Location)). All (IsKnown b.folder_counts) (stores_of l)) (sym located) (all_later d.folder_counts b.folder_counts (λ q is. s.folder_known q (r.folder_known q is)) (stores_of (map (locations_in look.place) xs)) known);
            seeds = all_known_later view.held c.file_counts b.file_counts s.known k.seeds.items (subst (λ (l : List (Seed V)). SeedsKnown view.held c.file_counts l) (sym seeds_are) seeds_known);
          };
        })
        (opened_with o d b stores images more gone tell (all_opened_over d c b b r (reads_none b) stores images more are))

    -- its names are those of the words
    pub opened_names : (d e : Disk) (stores : Stores) (images : List (List ℕ)) (k : Kit (Grouped (AnyStore L D K)) V) → IsKitOpened look view state d e stores images k → UsesNames look view images (folders_among (stores_of stores.groups)) k
    opened_names d e stores images k is = record {
      seeds = viewed_names d e images (map (seed_held view.held) k.seeds.items) is.viewed;
      stores = λ q none. subst (λ (l : List (List Location)). IsNoneOf q (folders_among (stores_of l))) (sym is.located) none;
    }

    -- ---- kits that were given back

    given_back : (k : Kit (Grouped (AnyStore L D K)) V) (w v : Storage) → IsKitGiven look view state k w v → Consults w v
    given_back k w v is = consults_twice w (storage is.closed v.dial) v is.stores.0 (record { disk = is.seeds; dial = dials_none v.dial })

    -- they were consulted
    pub all_given_back : (kits : List (Kit (Grouped (AnyStore L D K)) V)) (w v : Storage) → AreGivenBack look view state kits w v → Consults w v
    all_given_back kits w v are = turn_consults (IsKitGiven look view state) given_back kits w v are

    -- no server was asked where their stores are folders
    pub given_folders : (groups : List (List Location)) (kits : List (Kit (Grouped (AnyStore L D K)) V)) (w v : Storage) → All (λ k. kit_groups look view k ≡ groups) kits → AreGivenBack look view state kits w v → IsTrue (are_folders (stores_of groups)) → v.dial ≡ w.dial
    given_folders groups [] w v at same all = ap (λ (s : Storage). s.dial) same
    given_folders groups (k ∷ kits) w v at are all =
        let here : kit_groups look view k ≡ groups = at 0 k (omega arith) in
        are.2.stores.1 (subst (λ (l : List (List Location)). IsTrue (are_folders (stores_of l))) (sym here) all) ∙ given_folders groups kits w are.0 (All-tail (λ k. kit_groups look view k ≡ groups) k kits at) are.1 all

    pub given_used : (names folders : List (List ℕ)) (kits : List (Kit (Grouped (AnyStore L D K)) V)) (w v : Storage) → All (UsesNames look view names folders) kits → AreGivenBack look view state kits w v → Uses names folders w.disk v.disk
    given_used names folders [] w v named same = subst (λ (s : Storage). Uses names folders w.disk s.disk) (sym same) (uses_none names folders w.disk)
    given_used names folders (k ∷ kits) w v named are =
        let one : UsesNames look view names folders k = named 0 k (omega arith) in
        uses_twice names folders w.disk are.0.disk v.disk (given_used names folders kits w are.0 (All-tail (UsesNames look view names folders) k kits named) are.1)
        (uses_within (kit_names look view k) (folders_among (kit_stores look view k)) names folders are.0.disk v.disk one.seeds one.stores are.2.used)

    -- what its seeds have counted was added to numbers that hadn't fallen since d, and that haven't since by e
    pub record IsKitAdded (d e : Disk) (k : Kit (Grouped (AnyStore L D K)) V) : Type 0 where
      pub counts : Map ℕ
      pub le : (q : List ℕ) → count_at d.file_counts q ≤ count_at counts q
      pub added : All (λ s. raised (count_at counts (label_in view.held s)) (faults_in view.faults s) ≤ count_at e.file_counts (label_in view.held s)) k.seeds.items

    pub kits_added : (d e : Disk) (kits : List (Kit (Grouped (AnyStore L D K)) V)) (w v : Storage) → ((q : List ℕ) → count_at d.file_counts q ≤ count_at w.disk.file_counts q) → ((q : List ℕ) → count_at v.disk.file_counts q ≤ count_at e.file_counts q)
        → AreGivenBack look view state kits w v → All (IsKitAdded d e) kits
    kits_added d e [] w v before after same = All-nil (IsKitAdded d e)
    kits_added d e (k ∷ kits) w v before after are =
        let others = all_given_back kits w are.0 are.1 in
        let here = given_back k are.0 v are.2 in
        All-cons (IsKitAdded d e) k kits
        (record {
          counts = are.2.closed.file_counts;
          le = λ q. omega (arith, before q, others.disk.counts q, are.2.stores.0.disk.counts q);
          added = λ n s lt. let at = are.2.added n s lt in omega (arith, at, after (label_in view.held (slice_index_or k.seeds.items n s)));
        })
        (kits_added d e kits w are.0 before (λ q. omega (arith, here.disk.counts q, after q)) are.1)

    -- the connections of worker m and those after it have ended, and then those of the workers before it
    pub workers_dialed : (P : ℕ → Server → List Traffic → Type 0) (stores : List Location) (m : ℕ) (kits : List (Kit (Grouped (AnyStore L D K)) V)) (w u : Storage) (new : Option (List Traffic)) → AreGivenBack look view state kits w u
        → ((i : ℕ) (k : Kit (Grouped (AnyStore L D K)) V) → i < length kits → (a b : Option (List Traffic)) → b ≡ fold (with_group state) a (slice_index_or kits i k).chain.stores → EachDialed (P (m + i)) stores a b)
        → WorkersDialed P m stores u.dial.ended new → WorkersDialed P (m + length kits) stores w.dial.ended new
    workers_dialed P stores m kits w u new are each last = groups_turn_dialed (IsKitGiven look view state) P stores m kits w u new are (λ i k lt a b is. each i k lt a.dial.ended b.dial.ended is.ended) last

    -- nothing was asked
    pub given_nothing : (names : List Location) (kits : List (Kit (Grouped (AnyStore L D K)) V)) (w v : Storage) → All (λ k. (a b : Option (List Traffic)) → b ≡ fold (with_group state) a k.chain.stores → EachDialed Nothing names a b) kits → AreGivenBack look view state kits w v
        → EachDialed Nothing names w.dial.ended v.dial.ended
    given_nothing names [] w v each same = subst (λ (s : Storage). EachDialed Nothing names w.dial.ended s.dial.ended) (sym same) (none_dialed Nothing (λ s. refl) names w.dial.ended)
    given_nothing names (k ∷ kits) w v each are =
        nothing_twice names w.dial.ended are.0.dial.ended v.dial.ended (given_nothing names kits w are.0 (All-tail (λ k. (a b : Option (List Traffic)) → b ≡ fold (with_group state) a k.chain.stores → EachDialed Nothing names a b) k kits each) are.1)
        (each 0 k (omega arith) are.0.dial.ended v.dial.ended are.2.ended)
