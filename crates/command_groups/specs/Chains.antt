-- Chains of groups of stores: how they are opened, and given back.
use Rattle.std.specs.Prelude.{◌≡◌, ℕ, List, All, IfSome, map}
use Rattle.std.specs.List.{fold}
use Rattle.command_groups.specs.Groups.{stores_of}
use Rattle.command_groups.specs.Opened.{AreUnused, IsFresh, IsGroupGiven, files_in, locations_in, with_group}
use Rattle.command_steps.specs.AnyStores.{IsKnown, source_faults}
use Rattle.command_steps.specs.Sources.{ConsultsStores, Storage, location_files}
use Rattle.command_steps.specs.declared.any_store.AnyStore.{AnyStore}
use Rattle.command_words.specs.declared.command.Location.{Location}
use Rattle.dsy_base.specs.Disk.{Disk}
use Rattle.dsy_base.specs.Links.{DialState}
use Rattle.dsy_base.specs.declared.look.Look.{Ghosts as LookWords}
use Rattle.store_chain.specs.Chains.{Chained}
use Rattle.store_group.specs.Groups.{Grouped}

module _ {L D K : Type 0} (look : LookWords L) where
  -- the words that name the groups of a chain
  abbrev pub chain_groups : Chained (Grouped (AnyStore L D K)) → List (List Location)
  chain_groups c = map (locations_in look.place) c.stores

  -- it can be given back: the name of each folder has a number
  abbrev pub CanGiveChain : Disk → Chained (Grouped (AnyStore L D K)) → Type 0
  CanGiveChain d c = All (IsKnown d.folder_counts) (stores_of (chain_groups c))

  module _ (state : D → DialState) where
    -- it was opened for these words from folders that stand so: its stores hold the files of the folders, and nothing
    -- was asked yet
    pub record IsChainOpened (d e : Disk) (groups : List (List Location)) (retries : ℕ)
        (c : Chained (Grouped (AnyStore L D K))) : Type 0 where
      pub found : IfSome d.folders (λ m. map (files_in look.files) c.stores ≡ map (map (location_files m)) groups)
      pub located : chain_groups c ≡ groups
      pub fresh : All (IsFresh (source_faults look.faults state) retries) c.stores
      pub unused : All (AreUnused state) c.stores
      pub given : CanGiveChain e c

    -- it was given back
    pub record IsChainGiven (c : Chained (Grouped (AnyStore L D K))) (w v : Storage) : Type 0 where
      pub consults : ConsultsStores (stores_of (chain_groups c)) w v
      pub ended : v.dial.ended ≡ fold (with_group state) w.dial.ended c.stores
      pub groups : All (IsGroupGiven look.place look.faults state w v) c.stores
