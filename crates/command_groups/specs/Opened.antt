-- Groups of stores that were opened, and how they are given back. L is the type of a store's folder, D that of its
-- dialer, and K that of its connections.
use Rattle.std.specs.Prelude.{◌≡◌, ◌++◌, ℕ, ◌<◌, List, [], ◌∷◌, length, map, Option, IfSome, Bool, false}
use Rattle.std.specs.List.{All, fold}
use Rattle.chunk_store.specs.Said.{just_one}
use Rattle.command_groups.specs.Groups.{stores_of}
use Rattle.command_steps.specs.AnyStores.{IsGiven, IsUnused, chunks_in, location_in, source_faults, source_files}
use Rattle.command_steps.specs.AnyStores.{with_those}
use Rattle.command_steps.specs.Sources.{IsThere, Storage, location_files}
use Rattle.command_steps.specs.declared.any_store.AnyStore.{AnyStore}
use Rattle.command_words.specs.declared.command.Location.{Location}
use Rattle.dsy_base.specs.Links.{DialState, Traffic}
use Rattle.dsy_base.specs.Maps.{Map}
use Rattle.dsy_base.specs.declared.look.Look.{Ghosts as LookWords}
use Rattle.store_group.specs.Groups.{CountsFailures, Grouped, group_folder, group_holds, group_members}

-- the words that name the stores of a group
abbrev pub locations_in : {L D K : Type 0} → (L → List ℕ) → Grouped (AnyStore L D K) → List Location
locations_in place g = map (location_in place) g.stores

-- those of all groups
abbrev pub all_locations : {L D K : Type 0} → (L → List ℕ) → List (Grouped (AnyStore L D K)) → List Location
all_locations place groups = stores_of (map (locations_in place) groups)

-- the files of the folders of a group, where its stores are folders and they are told
abbrev pub files_in : {L D K : Type 0} → (L → Option (Map (List ℕ))) → Grouped (AnyStore L D K)
    → List (Option (Map (List ℕ)))
files_in files g = map (source_files files) g.stores

-- what the group tells of its files, by whether folders never fail: those of its folder, where it is one folder, or
-- those of the first of its folders while that alone is asked
abbrev pub told_files : {L D K : Type 0} → (sure : Bool) → (L → Option (Map (List ℕ))) → Grouped (AnyStore L D K)
    → Option (Map (List ℕ))
told_files sure files g = group_folder false sure (chunks_in files) (source_files files) g

-- the chunks that it holds, where it tells them
abbrev pub told_chunks : {L D K : Type 0} → (sure : Bool) → (L → Option (Map (List ℕ))) → Grouped (AnyStore L D K)
    → Option (Map (List ℕ))
told_chunks sure files g = group_holds false sure (chunks_in files) g

-- the chunks of its members, where all of them tell
abbrev pub told_members : {L D K : Type 0} → (sure : Bool) → (L → Option (Map (List ℕ))) → Grouped (AnyStore L D K)
    → Option (List (Map (List ℕ)))
told_members sure files g = group_members false sure (chunks_in files) (λ s. just_one (chunks_in files s)) g

-- a group that was just made: its first store is active, none has failed, and a call that fails is made so often again
pub record IsFresh {S : Type 0} (counted : S → ℕ) (again : ℕ) (g : Grouped S) : Type 0 where
  pub active : g.active ≡ 0
  pub retries : g.retries ≡ again
  pub failed : g.failed ≡ 0
  pub unfailed : All (λ s. counted s ≡ 0) g.stores

-- no connection has ended on its stores
abbrev pub AreUnused : {L D K : Type 0} → (D → DialState) → Grouped (AnyStore L D K) → Type 0
AreUnused state g = All (IsUnused state) g.stores

-- a fresh group for these words
pub record IsGroupAt {L D K : Type 0} (look : LookWords L) (state : D → DialState) (retries : ℕ)
    (folders : Option (Map (Map (List ℕ)))) (names : List Location) (g : Grouped (AnyStore L D K)) : Type 0 where
  pub there : IfSome folders (λ m. All (IsThere m) names)
  pub found : IfSome folders (λ m. files_in look.files g ≡ map (location_files m) names)
  pub located : locations_in look.place g ≡ names
  pub fresh : IsFresh (source_faults look.faults state) retries g
  pub unused : AreUnused state g

-- a fresh group for each was appended
abbrev pub OpensGroups : {L D K : Type 0} → LookWords L → (D → DialState) → ℕ → Option (Map (Map (List ℕ)))
    → List (List Location) → List (Grouped (AnyStore L D K)) → List (Grouped (AnyStore L D K)) → Type 0
OpensGroups look state retries folders [] old new = new ≡ old
OpensGroups {L} {D} {K} look state retries folders (names ∷ groups) old new = (g : Grouped (AnyStore L D K))
    × IsGroupAt look state retries folders names g
    × OpensGroups look state retries folders groups (old ++ g ∷ []) new

-- connections that had ended, and then those on its stores, in their order
abbrev pub with_group : {L D K : Type 0} → (D → DialState) → Option (List Traffic) → Grouped (AnyStore L D K)
    → Option (List Traffic)
with_group state ended g = fold (with_those state) ended g.stores

-- what each of its stores has counted was given back. It has failed only where each of them has, so often
pub record IsGroupGiven {L D K : Type 0} (place : L → List ℕ) (faults : L → ℕ) (state : D → DialState)
    (w v : Storage) (g : Grouped (AnyStore L D K)) : Type 0 where
  pub stores : All (IsGiven place faults state w v) g.stores
  pub counts : CountsFailures (source_faults faults state) g
  pub active : g.active < length g.stores
