-- `chunk-server -s STORE.. -e RETRIES -c CACHE -l HOST:PORT -n N`: chunks are served from the folder CACHE and, where
-- it doesn't give them, from groups of stores, whose chunks are added to it. Where N is 1 connections are served one
-- after the other, else each in a thread of its own.
use Rattle.std.specs.Prelude.{◌≡◌, ◌==◌, ◌≤◌, ◌&&◌, ◌||◌, not, nat_le, ℕ, Bool, true, false, IsTrue, is_some, List, []}
use Rattle.std.specs.Prelude.{◌∷◌, length, map}
use Rattle.std.specs.Prelude.{Option, Some, None, IfSome, Result, Ok, Err}
use Rattle.std.specs.Map.{count_at}
use Rattle.std.specs.Option.{option_map}
use Rattle.chunk_proxy.specs.Leaving.{IsChunkGet}
use Rattle.chunk_proxy.specs.States.{ProxyFiles, told_files, told_of}
use Rattle.chunk_proxy.specs.Talks.{proxy_protocol}
use Rattle.chunk_server.specs.Shelves.{ServedFolder}
use Rattle.chunk_store.specs.Folders.{chunks}
use Rattle.chunk_store.specs.declared.id.DigestKind.{DigestKind}
use Rattle.command_groups.specs.Asking.{GroupsAsked}
use Rattle.command_groups.specs.Groups.{group_files, stores_of}
use Rattle.command_outcome.specs.declared.outcome.Outcome.{Outcome}
use Rattle.command_outcome.specs.declared.outcome.Outcome.TheVariants as ends
use Rattle.command_steps.specs.Cache.{CacheOpened}
use Rattle.command_steps.specs.Dials.{Dials}
use Rattle.command_steps.specs.Sources.{OnStorage, SourcesOpened, Storage, location_files}
use Rattle.command_steps.specs.Stores.{are_folders}
use Rattle.command_words.specs.declared.command.Location.{Location}
use Rattle.command_worlds.specs.Steps.{◌>>=◌}
use Rattle.command_worlds.specs.Worlds.{Adds, OnDisk, Step, World}
use Rattle.dsy_base.specs.Counts.{Rose, raised}
use Rattle.dsy_base.specs.Links.{LinkState, ListenState, Traffic}
use Rattle.dsy_base.specs.Maps.{Map, at_name}
use Rattle.http_serve.specs.Steps.{ServedState}
use Rattle.locked_proxy.specs.Chains.{maps_all_told}
use Rattle.locked_proxy.specs.Replies.{EndsThrough}
use Rattle.locked_shelf.specs.Keepings.{KeepsOpening}
use Rattle.locked_shelf.specs.Listening.{ServesAll, ServesSome}
use Rattle.server_commands.specs.Serving.{Heard, Listens, RunsOut}

-- where the step refuses, nobody is heard
abbrev pub OrUnheard : {W A : Type 0} → Heard → Step W A → Step W A
OrUnheard h step w (Ok a) v = step w (Ok a) v
OrUnheard h step w (Err o) v = step w (Err o) v × (h.new ≡ h.old)

-- ---- connections

-- what is served from: the files of the cache at first and in the end, and of each group of stores the chunks that it
-- gives, where they are known
pub record Supply : Type 0 where
  pub held : Option (Map (List ℕ))
  pub left : Option (Map (List ℕ))
  pub holds : List (Option (Map (List ℕ)))

-- this was held, is left, and is given
abbrev pub supply : Option (Map (List ℕ)) → Option (Map (List ℕ)) → List (Option (Map (List ℕ))) → Supply
supply held left holds = record { held = held; left = left; holds = holds }

-- what the types tell of it: no call on a store fails; and all tell what they hold and none fails, so that replies are
-- told exactly
pub record Surely : Type 0 where
  pub stores : Bool
  pub replies : Bool

-- what is told of a cache with these files, before stores that were asked so often
abbrev pub told_state : Bool → Option (Map (List ℕ)) → ℕ → ServedState ProxyFiles
told_state told files asks = record { files = told_files told files asks; faults = 0 }

module _ (kind : DigestKind) (h : Heard) (s : Supply) (sure : Surely) where
  -- connections were served at the same time. They are told exactly where `tells` is true
  pub record ServesThreads (serves : (Bool → LinkState → Type 0) → ListenState → ListenState → Type 0) : Type 0 where
    pub tells : Bool
    pub told : is_some h.old.coming ≡ true → tells ≡ true
    pub served : serves (EndsThrough kind s.held (maps_all_told s.holds) h.never_fails sure.stores tells) h.old h.new

  -- one after the other, each served so from what the one before it left
  pub record ServesTurns (serves : ServedState ProxyFiles → ServedState ProxyFiles → Type 0) : Type 0 where
    pub asked : ℕ
    pub asks : ℕ
    pub served : serves (told_state sure.replies s.held asked) (told_state sure.replies s.left asks)

  -- how they were served: one after the other where `in_turn` is true, each request with a reply that may be given
  abbrev pub ServesProxy : Bool → Type 0
  ServesProxy true = ServesTurns (Listens (proxy_protocol kind (told_of s.holds)) h.old h.new)
  ServesProxy false = ServesThreads ServesAll

  -- and how, if there was no memory: one after the other without a failure of the listener
  abbrev pub ServesProxyShort : Bool → Type 0
  ServesProxyShort true =
      ServesTurns (RunsOut (proxy_protocol kind (told_of s.holds)) h.old h.new) × (h.new.faults ≡ h.old.faults)
  ServesProxyShort false = ServesThreads ServesSome

  -- by the answer: it is done where no more connections come
  abbrev pub ServesProxyTo : Bool → Result Unit Outcome → Type 0
  ServesProxyTo in_turn (Ok u) = (h.new.coming ≡ Some []) × ServesProxy in_turn
  ServesProxyTo in_turn (Err ends.ListenFault) = Rose h.old.faults h.new.faults × ServesProxy in_turn
  ServesProxyTo in_turn (Err ends.Memory) = ServesProxyShort in_turn
  ServesProxyTo in_turn (Err other) = ⊥

-- ---- stores

-- the files of a group of folders, where they are known: of stores that never fail those of the first, which is asked
-- alone, else those that the group tells. `looks` says whether folders never fail
abbrev pub files_given : (sure looks : Bool) → Map (Map (List ℕ)) → List Location → Option (Map (List ℕ))
files_given true looks m [] = Some (λ name. None)
files_given true looks m (q ∷ g) = location_files m q
files_given false looks m g = group_files looks m g

-- the chunks that each group gives
abbrev pub group_chunks : (sure looks : Bool) → Map (Map (List ℕ)) → List (List Location)
    → List (Option (Map (List ℕ)))
group_chunks sure looks m groups = map (λ g. option_map chunks (files_given sure looks m g)) groups

-- what the type of folders that are looked at says of calls on one: whether they never fail, and may lack memory
pub record LookTypes : Type 0 where
  pub never_fail : Bool
  pub lack_memory : Bool

-- a type that says so
abbrev pub look_types : Bool → Bool → LookTypes
look_types never_fail lack_memory = record { never_fail = never_fail; lack_memory = lack_memory }

-- whether no call on a store fails: all are folders, and their type never fails
abbrev pub stores_never_fail : LookTypes → List (List Location) → Bool
stores_never_fail looks groups = looks.never_fail && are_folders (stores_of groups)

-- and whether replies are told exactly: no call on the cache fails either, folders tell what they hold, and none that
-- gives a chunk is passed for want of memory: they may lack it only where there is one group
abbrev pub exact_replies : Bool → Option (Map (Map (List ℕ))) → Bool → Bool → List (List Location) → Bool
exact_replies cache_sure folders sure lack groups =
    cache_sure && ((sure && is_some folders) && (sure && (not lack || nat_le (length groups) 1)))

-- both
abbrev pub surely : LookTypes → Heard → List (List Location) → Option (Map (Map (List ℕ))) → Surely
surely looks h groups folders = record {
  stores = stores_never_fail looks groups;
  replies = exact_replies h.never_fails folders (stores_never_fail looks groups) looks.lack_memory groups;
}

-- the stores were asked for the chunk of an id so often, each e times more at most where it failed, and never whether
-- they have one. Nothing was sent to a server but fronts of such requests
abbrev pub GroupsGet : ℕ → List (List Location) → Option (List Traffic) → Option (List Traffic) → Type 0
GroupsGet e groups old new = (times : List ℕ → ℕ) × GroupsAsked e times (λ id. 0) IsChunkGet groups old new

-- ---- the command

-- connections were served so, where these are the folders, and `held` and `left` the files of the cache before and
-- after
pub record IsServedFrom (looks : LookTypes) (h : Heard) (groups : List (List Location)) (kind : DigestKind)
    (in_turn : Bool) (folders : Option (Map (Map (List ℕ)))) (held left : Option (Map (List ℕ)))
    (r : Result Unit Outcome) : Type 0 where
  pub holds : List (Option (Map (List ℕ)))
  pub known : IfSome folders (λ m. holds ≡ group_chunks (stores_never_fail looks groups) looks.never_fail m groups)
  pub served : ServesProxyTo kind h (supply held left holds) (surely looks h groups folders) in_turn r

-- the cache's folder was served from, and given back under its name with the faults that it has counted, at the least:
-- the name may be a store's too. Each id holds what it held, or a right chunk, and other files stay, temporary ones
-- aside. No other folder has changed. The stores were given back
pub record ProxyServed (looks : LookTypes) (h : Heard) (groups : List (List Location)) (e : ℕ) (cache : List ℕ)
    (kind : DigestKind) (in_turn : Bool) (w : Storage) (r : Result Unit Outcome) (v : Storage) : Type 0 where
  pub held : Option (Map (List ℕ))
  pub was : IfSome w.disk.folders (λ m. m cache ≡ held)
  pub left : ServedFolder
  pub kept : IfSome held (λ first. KeepsOpening kind first left.files)
  pub back : v.disk.folders ≡ option_map (λ m. at_name m cache left.files) w.disk.folders
  pub counted : raised (count_at w.disk.folder_counts cache) left.faults ≤ count_at v.disk.folder_counts cache
  pub serving : IsServedFrom looks h groups kind in_turn w.disk.folders held left.files r
  pub adds : Adds w.disk v.disk
  pub dials : Dials w.dial v.dial
  -- where all stores are folders, no server was asked
  pub undialed : IsTrue (are_folders (stores_of groups)) → v.dial ≡ w.dial
  -- of one connection after the other it is known how servers were asked
  pub asks : IsTrue in_turn → GroupsGet e groups w.dial.ended v.dial.ended

-- while the cache is used its folder counts as there
abbrev pub ProxyServerEnds
    : LookTypes → Heard → List (List Location) → ℕ → List ℕ → DigestKind → ℕ → Step World Unit
ProxyServerEnds looks h groups e cache kind workers = do
  _ ← OnDisk (OrUnheard h (SourcesOpened (stores_of groups)))
  _ ← OnDisk (OrUnheard h (CacheOpened (stores_of groups) (Some cache)))
  OnStorage (ProxyServed looks h groups e cache kind (workers == 1))
