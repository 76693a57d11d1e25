-- The kits of the further workers of an extraction: how they are opened, and given back.
use Rattle.std.specs.Prelude.{◌≡◌, ℕ, ◌≤◌, List, ◌∷◌, All, IfSome, map}
use Rattle.std.specs.List.{AllZip, fold}
use Rattle.std.specs.Map.{count_at}
use Rattle.chunk_sources.specs.declared.kit.Kit.{Kit}
use Rattle.command_groups.specs.Opened.{AreUnused, IsFresh, IsGroupGiven, all_locations, files_in, locations_in}
use Rattle.command_groups.specs.Opened.{with_group}
use Rattle.command_steps.specs.AnyStores.{IsKnown, source_faults}
use Rattle.command_steps.specs.Seeds.{IsViewed, SeedsKnown, label_in}
use Rattle.command_steps.specs.Sources.{ConsultsStores, Storage, location_files, storage}
use Rattle.command_steps.specs.Turns.{GivenInTurn}
use Rattle.command_steps.specs.Uses.{IsNoneOf, Uses, folders_among, names_among}
use Rattle.command_steps.specs.declared.any_store.AnyStore.{AnyStore}
use Rattle.command_words.specs.declared.command.Location.{Location}
use Rattle.extract_command.specs.declared.stores.Stores.{Stores}
use Rattle.store_group.specs.Groups.{Grouped}
use Rattle.command_worlds.specs.Worlds.{Reads}
use Rattle.dsy_base.specs.Counts.{raised}
use Rattle.dsy_base.specs.Disk.{Disk}
use Rattle.dsy_base.specs.Links.{DialState}
use Rattle.dsy_base.specs.declared.look.Look.{Ghosts as LookWords}
use Rattle.dsy_base.specs.declared.view.View.{Ghosts as ViewWords}
use Rattle.extract_plan.specs.Seeds.{faults_in, seed_held}
use Rattle.extract_plan.specs.declared.seed.Seed.{Seed}

-- some of these names are the others
abbrev pub AreNamesOf : List (List ℕ) → List (List ℕ) → Type 0
AreNamesOf all some = (q : List ℕ) → IsNoneOf q all → IsNoneOf q some

module _ {L V D K : Type 0} (look : LookWords L) (view : ViewWords V) where
  -- the words that name its stores, in groups
  abbrev pub kit_groups : Kit (Grouped (AnyStore L D K)) V → List (List Location)
  kit_groups k = map (locations_in look.place) k.chain.stores

  -- those of all groups
  abbrev pub kit_stores : Kit (Grouped (AnyStore L D K)) V → List Location
  kit_stores k = all_locations look.place k.chain.stores

  -- the names of its seeds
  abbrev pub kit_names : Kit (Grouped (AnyStore L D K)) V → List (List ℕ)
  kit_names k = names_among (map (seed_held view.held) k.seeds.items)

  -- it can be given back: the name of each folder and of each seed has a number
  pub record CanGiveKit (d : Disk) (k : Kit (Grouped (AnyStore L D K)) V) : Type 0 where
    pub stores : All (IsKnown d.folder_counts) (kit_stores k)
    pub seeds : SeedsKnown view.held d.file_counts k.seeds.items

  -- its names are some of these
  pub record UsesNames (files folders : List (List ℕ)) (k : Kit (Grouped (AnyStore L D K)) V) : Type 0 where
    pub seeds : AreNamesOf files (kit_names k)
    pub stores : AreNamesOf folders (folders_among (kit_stores k))

  module _ (state : D → DialState) where
    -- it was opened for these words from files and folders that stand so: its stores hold the files of the folders, its
    -- seeds are views of the images, nothing was asked and nothing has failed yet
    pub record IsKitOpened (d e : Disk) (stores : Stores) (images : List (List ℕ))
        (k : Kit (Grouped (AnyStore L D K)) V) : Type 0 where
      pub found : IfSome d.folders (λ m.
          map (files_in look.files) k.chain.stores ≡ map (map (location_files m)) stores.groups)
      pub located : kit_groups k ≡ stores.groups
      pub fresh : All (IsFresh (source_faults look.faults state) stores.retries) k.chain.stores
      pub unused : All (AreUnused state) k.chain.stores
      pub viewed : AllZip (IsViewed d e) images (map (seed_held view.held) k.seeds.items)
      pub unfailed : map (faults_in view.faults) k.seeds.items ≡ map (λ s. 0) k.seeds.items
      pub given : CanGiveKit e k

    -- all of them were opened so
    abbrev pub AreOpened : Disk → Disk → Stores → List (List ℕ) → List (Kit (Grouped (AnyStore L D K)) V) → Type 0
    AreOpened d e stores images kits = All (IsKitOpened d e stores images) kits

    -- it was given back: its stores, and then the images of its seeds
    pub record IsKitGiven (k : Kit (Grouped (AnyStore L D K)) V) (w v : Storage) : Type 0 where
      pub closed : Disk
      pub stores : ConsultsStores (kit_stores k) w (storage closed v.dial)
      pub given : All (IsGroupGiven look.place look.faults state w (storage closed v.dial)) k.chain.stores
      pub ended : v.dial.ended ≡ fold (with_group state) w.dial.ended k.chain.stores
      pub seeds : Reads closed v.disk
      pub used : Uses (kit_names k) (folders_among (kit_stores k)) w.disk v.disk
      pub added : All (λ s. raised (count_at closed.file_counts (label_in view.held s)) (faults_in view.faults s)
          ≤ count_at v.disk.file_counts (label_in view.held s)) k.seeds.items

    -- all of them were, the last first
    abbrev pub AreGivenBack : List (Kit (Grouped (AnyStore L D K)) V) → Storage → Storage → Type 0
    AreGivenBack kits w v = GivenInTurn IsKitGiven kits w v

-- a kit of these stores and seeds stands before the others
pub record StandsFirst {S V : Type 0} (stores : List S) (seeds : List (Seed V)) (kits others : List (Kit S V))
    : Type 0 where
  pub kit : Kit S V
  pub first : kits ≡ kit ∷ others
  pub stores_are : kit.chain.stores ≡ stores
  pub seeds_are : kit.seeds.items ≡ seeds
