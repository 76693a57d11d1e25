-- Chains of folders that were opened have the same stores. Where no look at a folder fails each group gives what the first
-- of its folders holds.
use Rattle.std.proofs.Common.{◌≡◌, ◌∙◌, ◌++◌, ◌&&◌, ◌||◌, not, ℕ, suc, ◌≤◌, Bool, true, false, List, [], ◌∷◌, All, length, map, slice_get, nat_le, is_some, Option, Some, None, IfSome, refl, sym, ap, arith, slice_index_or}
use Rattle.std.proofs.lemmas.List.{length-map}
use Rattle.std.specs.Option.{option_map}
use Rattle.chunk_store.specs.Asks.{sends_nothing}
use Rattle.chunk_store.specs.Folders.{chunks}
use Rattle.chunk_store.specs.Said.{just_one, said_by}
use Rattle.chunk_store.specs.declared.id.DigestKind.{DigestKind}
use Rattle.chunk_store.specs.declared.store.Store.{Ghosts as StoreWords}
use Rattle.command_groups.specs.Groups.{stores_of}
use Rattle.command_groups.specs.Opened.{IsFresh, files_in, locations_in}
use Rattle.command_steps.specs.AnyStores.{location_in, source_files}
use Rattle.command_steps.specs.Sources.{location_files}
use Rattle.command_steps.specs.Stores.{are_folders, folder_name}
use Rattle.command_steps.specs.declared.any_store.AnyStore.{AnyStore}
use Rattle.command_words.specs.declared.command.Location.{Location}
use Rattle.dsy_base.specs.Links.{ListenState}
use Rattle.dsy_base.specs.Maps.{Map}
use Rattle.dsy_base.specs.declared.look.Look.{Ghosts as LookWords}
use Rattle.locked_proxy.specs.Chains.{maps_all_told}
use Rattle.proxy_command.proofs.Lent.{all_told, some_held}
use Rattle.proxy_command.proofs.OfFolders.{all_across}
use Rattle.proxy_command.specs.FolderChains.{AreOfFolders, any_group, any_store}
use Rattle.proxy_command.specs.ProxyServing.{LookTypes, Surely, files_given, group_chunks, look_types, stores_never_fail, surely}
use Rattle.proxy_command.specs.Reaching.{AreLent, chain_chunks, chain_files, sure_by_types}
use Rattle.server_commands.specs.Serving.{heard}
use Rattle.store_chain.specs.Chains.{Chained}
use Rattle.store_group.specs.Groups.{Grouped, as_store, group_holds, group_place, no_chunks, of_one, of_store, places_of}

-- what contracts see of a folder as a store, and of a group of them
abbrev pub folder_words : {L : Type 0} → LookWords L → StoreWords L
folder_words look = record {
  holds = λ s. option_map chunks (look.files s);
  members = λ s. just_one (option_map chunks (look.files s));
  folder = λ s. look.files s;
  folders = λ s. [];
  giver = λ s. 0;
  said = λ s. said_by (option_map chunks (look.files s));
  sent = λ s. sends_nothing;
  asked = λ s id. 0;
  queried = λ s id. 0;
  faults = λ s. look.faults s;
  place = λ s. look.place s;
  tells = look.tells;
  never_fails = look.never_fails;
  told_never_fail = look.never_fails;
  may_lack_memory = look.may_lack_memory;
}

abbrev pub folder_group_words : {L : Type 0} → LookWords L → StoreWords (Grouped L)
folder_group_words look = as_store (folder_words look)

-- ---- what groups give

-- the chunks that a group of folders with these files gives: those of the first where none ever fails, else those of one
abbrev held_as : Bool → List (Option (Map (List ℕ))) → Option (Map (List ℕ))
held_as true fs = of_store (Some no_chunks) (option_map chunks) (slice_get fs 0)
held_as false fs = of_one (option_map chunks) fs

module _ {L : Type 0} (files : L → Option (Map (List ℕ))) where
  abbrev Chunks : L → Option (Map (List ℕ))
  Chunks l = option_map chunks (files l)

  module _ (D K : Type 0) where
    first_held : (xs : List L) → of_store (Some no_chunks) Chunks (slice_get xs 0) ≡ held_as true (map (source_files files) (map (any_store {D = D} {K = K}) xs))
    first_held [] = refl
    first_held (x ∷ xs) = refl

    one_held : (xs : List L) → of_one Chunks xs ≡ held_as false (map (source_files files) (map (any_store {D = D} {K = K}) xs))
    one_held [] = refl
    one_held (x ∷ []) = refl
    one_held (x ∷ y ∷ xs) = refl

    group_held : (sure : Bool) (g : Grouped L) → g.active ≡ 0 → group_holds sure sure Chunks g ≡ held_as sure (files_in files (any_group {D = D} {K = K} g))
    group_held true g first = ap (λ (n : ℕ). of_store (Some no_chunks) Chunks (slice_get g.stores n)) first ∙ first_held g.stores
    group_held false g first = one_held g.stores

    groups_held : (sure : Bool) (again : ℕ) (counted : AnyStore L D K → ℕ) (gs : List (Grouped L)) → All (IsFresh counted again) (map any_group gs) → map (group_holds sure sure Chunks) gs ≡ map (held_as sure) (map (files_in files) (map (any_group {D = D} {K = K}) gs))
    groups_held sure again counted [] fresh = refl
    groups_held sure again counted (g ∷ gs) fresh =
        let one = group_held sure g (fresh 0 (any_group g) (omega arith)).active in
        let others = groups_held sure again counted gs (λ n x lt. fresh (suc n) x (omega (arith, lt))) in
        λ i. one i ∷ others i

-- the same by the words that name them
given_known : (sure : Bool) (m : Map (Map (List ℕ))) (g : List Location) → held_as sure (map (location_files m) g) ≡ option_map chunks (files_given sure sure m g)
given_known true m [] = refl
given_known true m (q ∷ g) = refl
given_known false m [] = refl
given_known false m (q ∷ []) = refl
given_known false m (q ∷ r ∷ g) = refl

all_given : (sure : Bool) (m : Map (Map (List ℕ))) (groups : List (List Location)) → map (held_as sure) (map (map (location_files m)) groups) ≡ group_chunks sure sure m groups
all_given sure m [] = refl
all_given sure m (g ∷ groups) = λ i. given_known sure m g i ∷ all_given sure m groups i

-- ---- where they lie

-- the places of groups that are named so, and whose calls are made so often again
abbrev places_at : ℕ → List (List Location) → List (List ℕ)
places_at again names = map (λ (l : List Location). again ∷ places_of folder_name l) names

module _ {L : Type 0} (D K : Type 0) (place : L → List ℕ) where
  names_in : (xs : List L) → places_of place xs ≡ places_of folder_name (map (location_in place) (map (any_store {D = D} {K = K}) xs))
  names_in [] = refl
  names_in (x ∷ xs) = ap (λ rest. length (place x) ∷ place x ++ rest) (names_in xs)

  groups_there : (again : ℕ) (counted : AnyStore L D K → ℕ) (gs : List (Grouped L)) → All (IsFresh counted again) (map any_group gs) → map (group_place place) gs ≡ places_at again (map (locations_in place) (map (any_group {D = D} {K = K}) gs))
  groups_there again counted [] fresh = refl
  groups_there again counted (g ∷ gs) fresh =
      let tries : g.retries ≡ again = (fresh 0 (any_group g) (omega arith)).retries in
      let names = names_in g.stores in
      let others = groups_there again counted gs (λ n x lt. fresh (suc n) x (omega (arith, lt))) in
      λ i. (tries i ∷ names i) ∷ others i

-- ---- the chains

-- as many as there were
pub folders_number : {L D K : Type 0} (chains : List (Chained (Grouped (AnyStore L D K)))) (folders : List (Chained (Grouped L))) → AreOfFolders chains folders → length folders ≡ length chains
folders_number chains folders moved =
    let first : length (map (λ (c : Chained (Grouped _)). c.kind) folders) ≡ length folders = length-map folders (λ c. c.kind) in
    let last : length (map (λ (c : Chained (Grouped (AnyStore _ _ _))). c.kind) chains) ≡ length chains = length-map chains (λ c. c.kind) in
    sym first ∙ ap length moved.kinds ∙ last

pub and_true : (x y : Bool) → y ≡ true → (x && y) ≡ x
and_true true y is = is
and_true false y is = refl

pub and_none : (x y : Bool) → y ≡ false → (x && y) ≡ false
and_none true y is = is
and_none false y is = refl

module _ {L D K : Type 0} (look : LookWords L) (groups : List (List Location)) (again : ℕ) (counted : AnyStore L D K → ℕ) (kind : DigestKind) (chains : List (Chained (Grouped (AnyStore L D K)))) (folders : List (Chained (Grouped L)))
    (moved : AreOfFolders chains folders) (kinds : All (λ c. c.kind ≡ kind) chains) (alike : All (λ c. map (files_in look.files) c.stores ≡ chain_files look.files chains) chains)
    (located : All (λ c. map (locations_in look.place) c.stores ≡ groups) chains) (fresh : All (λ c. All (IsFresh counted again) c.stores) chains) where
  abbrev Words : StoreWords (Grouped L)
  Words = folder_group_words look

  abbrev Moved : Chained (Grouped L) → List (Grouped (AnyStore L D K))
  Moved c = map any_group c.stores

  across : (P : List (Grouped (AnyStore L D K)) → Type 0) → All (λ c. P c.stores) chains → All (λ c. P (Moved c)) folders
  across P all = all_across P Moved (λ c. c.stores) folders chains moved.groups all

  moved_fresh : All (λ c. All (IsFresh counted again) (Moved c)) folders
  moved_fresh = across (λ gs. All (IsFresh counted again) gs) fresh

  moved_alike : All (λ c. map (files_in look.files) (Moved c) ≡ chain_files look.files chains) folders
  moved_alike = across (λ gs. map (files_in look.files) gs ≡ chain_files look.files chains) alike

  moved_located : All (λ c. map (locations_in look.place) (Moved c) ≡ groups) folders
  moved_located = across (λ gs. map (locations_in look.place) gs ≡ groups) located

  -- what each chain gives, and where it lies
  each_holds : All (λ c. map Words.holds c.stores ≡ map (held_as look.never_fails) (chain_files look.files chains)) folders
  each_holds n d lt =
      let c = slice_index_or folders n d in
      groups_held look.files D K look.never_fails again counted c.stores (moved_fresh n d lt) ∙ ap (map (held_as look.never_fails)) (moved_alike n d lt)

  each_lies : All (λ c. map Words.place c.stores ≡ places_at again groups) folders
  each_lies n d lt =
      let c = slice_index_or folders n d in
      groups_there D K look.place again counted c.stores (moved_fresh n d lt) ∙ ap (places_at again) (moved_located n d lt)

  each_kind : All (λ c. c.kind ≡ kind) folders
  each_kind = all_across (λ (k : DigestKind). k ≡ kind) (λ c. c.kind) (λ c. c.kind) folders chains moved.kinds kinds

  pub folders_lent : AreLent Words kind folders
  folders_lent = go folders each_holds each_lies each_kind where
    go : (cs : List (Chained (Grouped L))) → All (λ c. map Words.holds c.stores ≡ map (held_as look.never_fails) (chain_files look.files chains)) cs → All (λ c. map Words.place c.stores ≡ places_at again groups) cs → All (λ c. c.kind ≡ kind) cs → AreLent Words kind cs
    go [] holds lies named = λ n c lt. absurd (omega (arith, lt))
    go (f ∷ more) holds lies named = λ n c lt. record {
      kind = named n c lt;
      held = some_held (maps_all_told (map Words.holds f.stores)) (map Words.holds f.stores) _ (holds n c lt ∙ sym (holds 0 f (omega arith))) (all_told (map Words.holds f.stores));
      places = lies n c lt ∙ sym (lies 0 f (omega arith));
    }

  -- what the groups give, by the folders that the words name
  pub folders_hold : 1 ≤ length chains → (disk : Option (Map (Map (List ℕ)))) → IfSome disk (λ m. chain_files look.files chains ≡ map (map (location_files m)) groups) → IfSome disk (λ m. chain_chunks Words.holds folders ≡ group_chunks look.never_fails look.never_fails m groups)
  folders_hold some None found = tt
  folders_hold some (Some m) found = go folders each_holds size ∙ ap (map (held_as look.never_fails)) found ∙ all_given look.never_fails m groups where
    size : length folders ≡ length chains
    size = folders_number chains folders moved

    go : (cs : List (Chained (Grouped L))) → All (λ c. map Words.holds c.stores ≡ map (held_as look.never_fails) (chain_files look.files chains)) cs → length cs ≡ length chains → chain_chunks Words.holds cs ≡ map (held_as look.never_fails) (chain_files look.files chains)
    go [] holds n = absurd (omega (arith, n, some))
    go (f ∷ more) holds n = holds 0 f (omega arith)

  -- as many as there are groups
  pub folders_many : 1 ≤ length chains → length (chain_chunks Words.holds folders) ≡ length groups
  folders_many some = go folders moved_located size where
    size : length folders ≡ length chains
    size = folders_number chains folders moved

    go : (cs : List (Chained (Grouped L))) → All (λ c. map (locations_in look.place) (Moved c) ≡ groups) cs → length cs ≡ length chains → length (chain_chunks Words.holds cs) ≡ length groups
    go [] at n = absurd (omega (arith, n, some))
    go (f ∷ more) at n =
        let moved_many : length (Moved f) ≡ length f.stores = length-map f.stores any_group in
        let named_many : length (map (locations_in look.place) (Moved f)) ≡ length (Moved f) = length-map (Moved f) (locations_in look.place) in
        length-map f.stores Words.holds ∙ sym moved_many ∙ sym named_many ∙ ap length (at 0 f (omega arith))

-- what the types of folders tell, by what the command says of them
pub folders_sure : {L : Type 0} (look : LookWords L) (never : Bool) (l m : ListenState) (groups : List (List Location)) (disk : Option (Map (Map (List ℕ)))) (holds : List (Option (Map (List ℕ)))) → are_folders (stores_of groups) ≡ true → is_some disk ≡ look.tells → length holds ≡ length groups
    → sure_by_types never (folder_group_words look) holds ≡ surely (look_types look.never_fails look.may_lack_memory) (heard never l m) groups disk
folders_sure look never l m groups disk holds all tells many =
    let x : look.never_fails ≡ stores_never_fail (look_types look.never_fails look.may_lack_memory) groups = sym (and_true look.never_fails (are_folders (stores_of groups)) all) in
    λ i. record { stores = x i; replies = never && ((x i && sym tells i) && (x i && (not look.may_lack_memory || nat_le (many i) 1))) }

abbrev none_sure : Bool → Surely
none_sure never = record { stores = false; replies = never && false }

-- stores that aren't all folders are not known never to fail
pub others_sure : {S : Type 0} (store : StoreWords S) (looks : LookTypes) (never : Bool) (l m : ListenState) (groups : List (List Location)) (disk : Option (Map (Map (List ℕ)))) (holds : List (Option (Map (List ℕ)))) → are_folders (stores_of groups) ≡ false → store.tells ≡ false → store.never_fails ≡ false
    → sure_by_types never store holds ≡ surely looks (heard never l m) groups disk
others_sure store looks never l m groups disk holds none untold unsure =
    let x : false ≡ stores_never_fail looks groups = sym (and_none looks.never_fail (are_folders (stores_of groups)) none) in
    let first : sure_by_types never store holds ≡ none_sure never =
    λ i. record { stores = unsure i; replies = never && (untold i && (store.never_fails && (not store.may_lack_memory || nat_le (length holds) 1))) } in
    let second : none_sure never ≡ surely looks (heard never l m) groups disk =
    λ i. record { stores = x i; replies = never && ((x i && is_some disk) && (x i && (not looks.lack_memory || nat_le (length groups) 1))) } in
    first ∙ second
