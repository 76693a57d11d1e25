-- Chains of groups of folders, and the same as stores of any kind. A folder store is seen as its folder. L is the type
-- of a folder, D that of a dialer, and K that of its connections.
use Rattle.std.specs.Prelude.{◌≡◌, ℕ, ◌≤◌, List, All, length, map, IsTrue}
use Rattle.command_groups.specs.Groups.{stores_of}
use Rattle.command_groups.specs.Opened.{locations_in}
use Rattle.command_steps.specs.AnyStores.{IsKnown}
use Rattle.command_steps.specs.Stores.{are_folders}
use Rattle.command_steps.specs.declared.any_store.AnyStore.{AnyStore}
use Rattle.command_steps.specs.declared.any_store.AnyStore.TheVariants as stores
use Rattle.command_words.specs.declared.command.Location.{Location}
use Rattle.command_words.specs.declared.command.Location.TheVariants as locations
use Rattle.dsy_base.specs.Maps.{Map}
use Rattle.store_chain.specs.Chains.{Chained}
use Rattle.store_group.specs.Groups.{Grouped}

module _ {L D K : Type 0} where
  -- a folder as a store of any kind
  abbrev pub any_store : L → AnyStore L D K
  any_store l = stores.Folder l

  -- a group of folders as one of stores of any kind
  abbrev pub any_group : Grouped L → Grouped (AnyStore L D K)
  any_group g = record {
    stores = map any_store g.stores;
    active = g.active;
    retries = g.retries;
    failed = g.failed;
  }

  module _ (place : L → List ℕ) (counts : Map ℕ) (retries : ℕ) where
    -- a group of folders that was opened and not asked, and that can be given back
    pub record IsFolderGroup (g : Grouped (AnyStore L D K)) : Type 0 where
      pub active : g.active ≡ 0
      pub failed : g.failed ≡ 0
      pub again : g.retries ≡ retries
      pub folders : IsTrue (are_folders (locations_in place g))
      pub known : All (IsKnown counts) (locations_in place g)

    -- so are all of these
    abbrev pub AreFolderGroups : List (Grouped (AnyStore L D K)) → Type 0
    AreFolderGroups groups = All IsFolderGroup groups

    -- and a chain of such groups, of which there are 1 to 16
    pub record IsFolderChain (c : Chained (Grouped (AnyStore L D K))) : Type 0 where
      pub groups : AreFolderGroups c.stores
      pub some : 1 ≤ length c.stores
      pub few : length c.stores ≤ 16

  -- chains of the same groups, which are of folders, that name their chunks by the same digests
  pub record AreOfFolders (chains : List (Chained (Grouped (AnyStore L D K)))) (folders : List (Chained (Grouped L)))
      : Type 0 where
    pub groups : map (λ (c : Chained (Grouped L)). map any_group c.stores) folders ≡ map (λ c. c.stores) chains
    pub kinds : map (λ (c : Chained (Grouped L)). c.kind) folders ≡ map (λ c. c.kind) chains

module _ {L : Type 0} (place : L → List ℕ) where
  -- the words that name a folder
  abbrev pub folder_location : L → Location
  folder_location l = locations.Folder (place l)

  -- those that name the folders of a group
  abbrev pub folder_locations : Grouped L → List Location
  folder_locations g = map folder_location g.stores

  -- folders can be given back
  abbrev pub KnowsFolders : Map ℕ → List L → Type 0
  KnowsFolders counts folders = All (IsKnown counts) (map folder_location folders)

  -- the same of groups of them
  abbrev pub KnowsGroups : Map ℕ → List (Grouped L) → Type 0
  KnowsGroups counts groups = All (IsKnown counts) (stores_of (map folder_locations groups))

  -- and of chains of these
  abbrev pub KnowsChains : Map ℕ → List (Chained (Grouped L)) → Type 0
  KnowsChains counts chains = All (λ c. KnowsGroups counts c.stores) chains
