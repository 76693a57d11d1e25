-- What an extraction holds while it runs: its stores, the shelf of its cache, the images of its seeds, and the kits of
-- its further workers.
use Rattle.std.specs.Prelude.{◌≡◌, ◌⊎◌, ℕ, ◌≤◌, List, [], All, IfSome, IsSome, None, Option, Ok, Err, map, vec_capacity}
use Rattle.std.specs.List.{fold}
use Rattle.std.specs.Map.{count_at}
use Rattle.std.specs.Option.{option_map}
use Rattle.chunk_sources.specs.Caches.{seen}
use Rattle.chunk_sources.specs.declared.kit.Kit.{Kit}
use Rattle.chunk_store.specs.declared.id.DigestKind.{DigestKind}
use Rattle.command_groups.specs.Groups.{stores_of}
use Rattle.command_groups.specs.Opened.{AreUnused, IsFresh, IsGroupGiven, files_in, locations_in, with_group}
use Rattle.command_steps.specs.AnyStores.{IsKnown, source_faults}
use Rattle.command_steps.specs.Cache.{CacheGiven, CacheOpened, with_cache}
use Rattle.command_steps.specs.Seeds.{SeedsKnown, label_in}
use Rattle.command_steps.specs.Sources.{ConsultsStores, Storage, SourcesOpened, storage, location_files}
use Rattle.command_steps.specs.Uses.{Uses, folders_among, names_among}
use Rattle.command_steps.specs.declared.any_store.AnyStore.{AnyStore}
use Rattle.command_words.specs.declared.command.Location.{Location}
use Rattle.command_worlds.specs.Worlds.{Reads, Step}
use Rattle.dsy_base.specs.Counts.{raised}
use Rattle.dsy_base.specs.Disk.{Disk}
use Rattle.dsy_base.specs.Links.{DialState}
use Rattle.dsy_base.specs.declared.look.Look.{Ghosts as LookWords}
use Rattle.dsy_base.specs.declared.view.View.{Ghosts as ViewWords}
use Rattle.extract_plan.specs.Seeds.{faults_in, seed_held}
use Rattle.extract_command.specs.Extract.{folders_reached}
use Rattle.extract_command.specs.Kits.{AreGivenBack, AreNamesOf, CanGiveKit, UsesNames}
use Rattle.extract_command.specs.declared.held.Held.{Held}
use Rattle.store_group.specs.Groups.{Grouped}

-- the stores were opened, and then the cache's folder was reached
abbrev pub AllReached : List (List Location) → Option (List ℕ) → Step Disk Unit
AllReached groups cache d (Ok u) e =
    (m : Disk) × SourcesOpened (stores_of groups) d (Ok u) m × CacheOpened (stores_of groups) cache m (Ok u) e
AllReached groups cache d (Err o) e = SourcesOpened (stores_of groups) d (Err o) e
    ⊎ ((m : Disk) × SourcesOpened (stores_of groups) d (Ok tt) m × CacheOpened (stores_of groups) cache m (Err o) e)

-- the words that name its stores, in groups
abbrev pub groups_of : {L W V D K : Type 0} → LookWords L → Held L W V D K → List (List Location)
groups_of look h = map (locations_in look.place) h.stores.items

-- the disk with the cache's folder in its place again
abbrev pub disk_with : {L W V D K : Type 0} → LookWords W → Held L W V D K → Disk → Disk
disk_with folder h d = with_cache (seen folder h.shelf) d

-- the kits of the further workers
abbrev pub further_kits : {L W V D K : Type 0} → Held L W V D K → List (Kit (Grouped (AnyStore L D K)) V)
further_kits h = h.kits.items

-- all of it can be given back
pub record CanBeGiven {L W V D K : Type 0} (look : LookWords L) (folder : LookWords W) (view : ViewWords V) (d : Disk)
    (h : Held L W V D K) : Type 0 where
  pub stores : All (IsKnown d.folder_counts) (stores_of (groups_of look h))
  pub named : option_map (λ s. folder.place s.folder) h.shelf ≡ h.cache
  pub cache : IfSome h.cache (λ q. IsSome (d.folder_counts q))
  pub seeds : SeedsKnown view.held d.file_counts h.seeds.items
  pub kits : All (CanGiveKit look view d) (further_kits h)

-- the names of all seeds are some of these, and those of the kits' folders are the stores' own
pub record HasNames {L W V D K : Type 0} (look : LookWords L) (view : ViewWords V) (images : List (List ℕ))
    (h : Held L W V D K) : Type 0 where
  pub seeds : AreNamesOf images (names_among (map (seed_held view.held) h.seeds.items))
  pub kits : All (UsesNames look view images (folders_among (stores_of (groups_of look h)))) (further_kits h)

-- it was just reached: nothing was asked and nothing failed yet, a call on a store that fails is made so often again,
-- the cache's folder is taken, whose chunks are named by this kind of digest, no seed and no kit is open, and there is
-- room for this number of kits
pub record JustReached {L W V D K : Type 0} (look : LookWords L) (folder : LookWords W) (view : ViewWords V)
    (state : D → DialState) (d : Disk) (retries workers : ℕ) (kind : DigestKind) (h : Held L W V D K) : Type 0 where
  pub lent : CanBeGiven look folder view d h
  pub unused : All (AreUnused state) h.stores.items
  pub fresh : All (IsFresh (source_faults look.faults state) retries) h.stores.items
  pub shelf : IfSome h.shelf (λ s. (folder.faults s.folder ≡ 0) × (s.kind ≡ kind))
  pub found : IfSome (disk_with folder h d).folders (λ m.
      map (files_in look.files) h.stores.items ≡ map (map (location_files m)) (groups_of look h))
  pub gone : IfSome h.cache (λ q. IfSome d.folders (λ m. m q ≡ None))
  pub none : h.seeds.items ≡ []
  pub room : (h.kits.items ≡ []) × (workers ≤ vec_capacity h.kits)

-- the kits of the further workers were given back, the cache's folder, then the stores, and then the images of the
-- seeds
pub record IsGivenBack {L W V D K : Type 0} (look : LookWords L) (folder : LookWords W) (view : ViewWords V)
    (state : D → DialState) (h : Held L W V D K) (w v : Storage) : Type 0 where
  pub first : Storage
  pub kits : AreGivenBack look view state (further_kits h) w first
  pub cached : Disk
  pub cache : CacheGiven (seen folder h.shelf) first.disk cached
  pub closed : Disk
  pub stores : ConsultsStores (stores_of (groups_of look h)) (storage cached first.dial) (storage closed v.dial)
  pub counts : closed.file_counts ≡ cached.file_counts
  pub given : All (IsGroupGiven look.place look.faults state (storage cached first.dial) (storage closed v.dial))
      h.stores.items
  pub ended : v.dial.ended ≡ fold (with_group state) first.dial.ended h.stores.items
  pub seeds : Reads closed v.disk
  pub used : (images : List (List ℕ)) → HasNames look view images h
      → Uses images (folders_reached h.cache (groups_of look h)) w.disk v.disk
  pub folder_counts : v.disk.folder_counts ≡ closed.folder_counts
  pub added : All (λ s. raised (count_at closed.file_counts (label_in view.held s)) (faults_in view.faults s)
      ≤ count_at v.disk.file_counts (label_in view.held s)) h.seeds.items
