-- What stores are reached through, files and folders, and connections to servers; and what is known of
-- a store over a step.
use Rattle.std.specs.Prelude.{◌≡◌, ◌⊎◌, ◌++◌, ℕ, List, [], ◌∷◌}
use Rattle.std.specs.Prelude.{Option, Some, None, IfSome, IsSome, IsTrue, slice_index_or, Ok, Err}
use Rattle.std.specs.List.{All, Any}
use Rattle.std.specs.Option.{option_map}
use Rattle.chunk_store.specs.Folders.{chunks}
use Rattle.chunk_store.specs.Said.{Said, said_by}
use Rattle.command_outcome.specs.declared.outcome.Outcome.{Outcome}
use Rattle.command_outcome.specs.declared.outcome.Outcome.TheVariants as ends
use Rattle.command_steps.specs.Dials.{Dials, since}
use Rattle.command_steps.specs.Stores.{NotReached, are_folders}
use Rattle.command_steps.specs.Uses.{Uses, folders_among}
use Rattle.command_worlds.specs.Worlds.{FolderRose, Reads, Step, World}
use Rattle.command_words.specs.declared.command.Location.{Location}
use Rattle.command_words.specs.declared.command.Location.TheVariants as locations
use Rattle.dsy_base.specs.Counts.{Rose}
use Rattle.dsy_base.specs.Disk.{Disk}
use Rattle.dsy_base.specs.Links.{DialState}
use Rattle.dsy_base.specs.Maps.{Map}
use Rattle.http_read.specs.Asks.{Server}
use Rattle.http_read.specs.Refusals.{IsUnacceptable}
use Rattle.http_read.specs.Remotes.{said_on}
use Rattle.store_chain.specs.Lists.{FirstAt}
use Rattle.store_chain.specs.Refusals.{HasShown, Lacks}
use Rattle.store_chain.specs.declared.refused.Refused.{Refused}
use Rattle.store_chain.specs.declared.refused.Refused.TheVariants as refused
use Rattle.store_chain.specs.declared.query.Query.{Query}

-- what stores are opened in and asked through: files, folders and the dialer
pub record Storage : Type 0 where
  pub disk : Disk
  pub dial : DialState

-- the two together
abbrev pub storage : Disk → DialState → Storage
storage d k = record { disk = d; dial = k }

-- the part of the world that stores use
abbrev pub storage_of : World → Storage
storage_of w = storage w.disk w.dial

-- a step over these, which leaves what was printed
abbrev pub OnStorage : {A : Type 0} → Step Storage A → Step World A
OnStorage step w r v = step (storage_of w) r (storage_of v) × (v.out ≡ w.out)

-- stores were opened, asked, or given back: files and folders were read, and servers asked
pub record Consults (w v : Storage) : Type 0 where
  pub disk : Reads w.disk v.disk
  pub dial : Dials w.dial v.dial

-- a step over files and folders alone, in which no server is asked
abbrev pub NotAsking : {A : Type 0} → Step Disk A → Step Storage A
NotAsking step w r v = step w.disk r v.disk × (v.dial ≡ w.dial)

-- the servers among these stores were asked. Where all are folders, none was
abbrev pub DialsStores : List Location → DialState → DialState → Type 0
DialsStores stores k j = Dials k j × (IsTrue (are_folders stores) → j ≡ k)

-- so it was with these stores. Where all are folders, no server was asked
abbrev pub ConsultsStores : List Location → Storage → Storage → Type 0
ConsultsStores stores w v = Consults w v × (IsTrue (are_folders stores) → v.dial ≡ w.dial)

-- ---- what words name

abbrev pub server_at : List ℕ → ℕ → List ℕ → Server
server_at host port prefix = record { host = host; port = port; prefix = prefix }

-- the store of this number
abbrev pub store_at : List Location → ℕ → Location
store_at stores k = slice_index_or stores k (locations.Folder [])

-- a folder of these holds these files; a server doesn't tell
abbrev pub location_files : Map (Map (List ℕ)) → Location → Option (Map (List ℕ))
location_files m (locations.Folder q) = m q
location_files m (locations.Http host port prefix) = None

-- a folder is there; a server is only asked later
abbrev pub IsThere : Map (Map (List ℕ)) → Location → Type 0
IsThere m (locations.Folder q) = IsSome (m q)
IsThere m (locations.Http host port prefix) = Unit {0}

abbrev pub AllThere : Disk → List Location → Type 0
AllThere d stores = IfSome d.folders (λ m. All (IsThere m) stores)

-- ---- what stores have said and counted

-- the files of a folder, where they are told
abbrev pub files_at : Option (Map (Map (List ℕ))) → List ℕ → Option (Map (List ℕ))
files_at None q = None
files_at (Some m) q = m q

-- what a folder says by its chunks, and what a server has said on the connections that have ended since
abbrev pub said_at : Storage → Storage → Location → Said
said_at w v (locations.Folder q) = said_by (option_map chunks (files_at w.disk.folders q))
said_at w v (locations.Http host port prefix) = said_on (server_at host port prefix) (since w.dial.ended v.dial.ended)

-- calls on the folder have failed; or some on connections have, or a reply of the server wasn't taken
abbrev pub StoreRose : Storage → Storage → Location → Type 0
StoreRose w v (locations.Folder q) = FolderRose w.disk v.disk q
StoreRose w v (locations.Http host port prefix) = Rose w.dial.faults v.dial.faults
    ⊎ IfSome (since w.dial.ended v.dial.ended) (Any (IsUnacceptable (server_at host port prefix)))

-- when the stores were asked for something, that of this number failed, each before it lacks it, and each after it
-- lacks it or failed too
abbrev pub FailsFirst : (Said → Type 0) → Storage → Storage → ℕ → List Location → Type 0
FailsFirst lacks w v =
    FirstAt (λ s. lacks (said_at w v s)) (StoreRose w v) (λ s. lacks (said_at w v s) ⊎ StoreRose w v s)

-- what stores have said that lack a chunk: all have denied it; or this is the first that has shown something else
-- under its id, and all lack it; or this is the first that failed, and all others lack it or failed too
abbrev pub HaveLacked : Query → Storage → Storage → List Location → Refused → Type 0
HaveLacked c w v stores refused.Missing = All (λ s. (said_at w v s).denied c.id.0) stores
HaveLacked c w v stores (refused.Damaged s x) = FirstAt (λ s. (said_at w v s).denied c.id.0)
    (λ s. HasShown c x (said_at w v s)) (λ s. Lacks c (said_at w v s)) s.number stores
HaveLacked c w v stores (refused.StoreFault s) = FailsFirst (Lacks c) w v s stores
HaveLacked c w v stores refused.Memory = Unit {0}

-- ---- how opening may refuse

-- a folder isn't there, or wasn't reached. A server is refused for want of memory alone
abbrev pub Unreached : Disk → Disk → Location → Outcome → Type 0
Unreached d e s ends.Memory = Unit {0}
Unreached d e (locations.Folder q) o = NotReached d e q o
Unreached d e (locations.Http host port prefix) o = ⊥

-- the first that wasn't reached, after those that are there
abbrev pub FirstUnreached : Disk → Disk → List Location → Outcome → Type 0
FirstUnreached d e [] o = ⊥
FirstUnreached d e (s ∷ stores) o =
    Unreached d e s o ⊎ (IfSome d.folders (λ m. IsThere m s) × FirstUnreached d e stores o)

-- the stores were opened, and there was room for what is to be read from them
abbrev pub SourcesOpened : List Location → Step Disk Unit
SourcesOpened stores d (Ok u) e = AllThere d stores × Reads d e × Uses [] (folders_among stores) d e
SourcesOpened stores d (Err o) e =
    (FirstUnreached d e stores o ⊎ (o ≡ ends.Memory)) × Reads d e × Uses [] (folders_among stores) d e

-- ---- the stores that were opened

module _ {S : Type 0} (files : S → Option (Map (List ℕ))) (location : S → Location) (counted : S → ℕ) where
  -- a fresh store for these words
  pub record IsSourceAt (folders : Option (Map (Map (List ℕ)))) (q : Location) (s : S) : Type 0 where
    pub there : IfSome folders (λ m. IsThere m q)
    pub found : IfSome folders (λ m. files s ≡ location_files m q)
    pub located : location s ≡ q
    pub unfailed : counted s ≡ 0

  -- a fresh store for each was appended
  abbrev pub OpensSources : Option (Map (Map (List ℕ))) → List Location → List S → List S → Type 0
  OpensSources folders [] old new = new ≡ old
  OpensSources folders (q ∷ names) old new =
      (s : S) × IsSourceAt folders q s × OpensSources folders names (old ++ s ∷ []) new
