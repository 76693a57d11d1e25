-- Groups of stores that ids were counted in: what they have said and counted once they are given back.
use Rattle.std.proofs.Common.{◌≡◌, ◌∙◌, ℕ, List, map, All, Option, IfSome, slice_index_or, sym, subst}
use Rattle.std.specs.List.{fold}
use Rattle.caibx_codec.specs.Asks.{IsListedHas}
use Rattle.caibx_codec.specs.Listing.{Listing, count_of}
use Rattle.command_groups.proofs.Asked.{groups_asked}
use Rattle.command_groups.proofs.Given.{group_given_earlier}
use Rattle.command_groups.proofs.Stand.{found_after, fresh_first, fresh_tries, groups_stand_still, groups_try_still}
use Rattle.command_groups.proofs.Standing.{Standing, all_groups_stand}
use Rattle.command_groups.proofs.Words.{group_words}
use Rattle.command_groups.specs.Asking.{GroupsAsked}
use Rattle.command_groups.specs.Groups.{stores_of}
use Rattle.command_groups.specs.Opened.{AreUnused, IsFresh, IsGroupGiven, files_in, locations_in, with_group}
use Rattle.command_steps.proofs.Asking.{none_more}
use Rattle.command_steps.proofs.Consulted.{reads_consult}
use Rattle.command_steps.proofs.Dialed.{dials_none}
use Rattle.command_steps.specs.AnyStores.{IsKnown, source_faults}
use Rattle.command_steps.specs.Sources.{ConsultsStores, location_files, storage}
use Rattle.command_steps.specs.declared.any_store.AnyStore.{AnyStore}
use Rattle.command_words.specs.declared.command.Location.{Location}
use Rattle.command_worlds.specs.Worlds.{Reads}
use Rattle.dsy_base.specs.Disk.{Disk}
use Rattle.dsy_base.specs.Links.{DialState, Traffic}
use Rattle.dsy_base.specs.declared.look.Look.{Ghosts as LookWords}
use Rattle.store_chain.specs.Chains.{KeepsStores}
use Rattle.store_commands.proofs.Counting.{each_once}
use Rattle.store_commands.specs.Info.{asks_once}
use Rattle.store_group.specs.Groups.{Grouped}
use Rattle.verify_tool.specs.Counts.{EachAsksBefore}

-- groups that were opened for these words, and asked for the ids of an index
module _ {L D K : Type 0} (look : LookWords L) (state : D → DialState) (e : ℕ) (l : Listing) (names : List (List Location)) (before after : List (Grouped (AnyStore L D K)))
    (located : map (locations_in look.place) before ≡ names) (fresh : All (IsFresh (source_faults look.faults state) e) before) (kept : KeepsStores (group_words look state) (IsListedHas l) before after) where
  stands : map (locations_in look.place) after ≡ map (locations_in look.place) before
  stands = groups_stand_still look.place before after kept.places

  pub located_after : map (locations_in look.place) after ≡ names
  located_after = stands ∙ located

  -- the first store of each was asked first
  pub first_before : All (λ g. g.active ≡ 0) before
  first_before = fresh_first (source_faults look.faults state) e before fresh

  tries : All (λ g. g.retries ≡ e) after
  tries = groups_try_still look.place e before after kept.places (fresh_tries (source_faults look.faults state) e before fresh)

  -- each can be given back where each name was known
  pub known_after : (d : Disk) → All (IsKnown d.folder_counts) (stores_of names) → All (IsKnown d.folder_counts) (stores_of (map (locations_in look.place) after))
  known_after d known = subst (λ (l : List (List Location)). All (IsKnown d.folder_counts) (stores_of l)) (sym located_after) known

  -- how their servers were asked
  pub asked_after : (old new : Option (List Traffic)) → All (AreUnused state) before → map (group_words look state).asked after ≡ map (group_words look state).asked before → EachAsksBefore (group_words look state).queried l (count_of l) before after
      → new ≡ fold (with_group state) old after → GroupsAsked e (λ id. 0) (asks_once l) (IsListedHas l) names old new
  asked_after old new unused asked queried ended =
      groups_asked look.place state e (λ id. 0) (asks_once l) (IsListedHas l) before after names old new unused tries stands
      (none_more (group_words look state).asked before after asked) (each_once (group_words look state).queried l before after queried) kept.sends located_after ended

  -- the disk was read while they were opened, from d to m; then they were given back
  module _ (d m : Disk) (k : DialState) (f : Disk) (j : DialState) (opened : Reads d m) (closed : ConsultsStores (stores_of (map (locations_in look.place) after)) (storage m k) (storage f j)) where
    pub consulted_after : ConsultsStores (stores_of names) (storage d k) (storage f j)
    consulted_after = reads_consult d m k (storage f j) (stores_of names) opened (subst (λ (l : List (List Location)). ConsultsStores (stores_of l) (storage m k) (storage f j)) located_after closed)

    pub standing_after : IfSome d.folders (λ m. map (files_in look.files) before ≡ map (map (location_files m)) names) → All (IsGroupGiven look.place look.faults state (storage m k) (storage f j)) after
        → All (Standing look.never_fails look.files look.place look.faults state e (storage d k) (storage f j)) after
    standing_after found given =
        all_groups_stand look.never_fails look.files look.place look.faults state e (storage d k) (storage f j) after names located_after
        (found_after look.files d.folders before after names kept.folders found) tries
        (λ n g lt. group_given_earlier look.place look.faults state (storage d k) (storage m k) (storage f j) opened.folder_counts (dials_none k) closed.0.dial (slice_index_or after n g) (given n g lt))
