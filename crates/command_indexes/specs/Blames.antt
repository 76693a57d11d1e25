-- What holds of each command over the world before it and after it: what it spares, and whose fault it tells.
use Rattle.std.specs.Prelude.{◌≡◌, ◌⊎◌, ℕ, Bool, IsTrue, List, IfSome, Result, Ok, Err}
use Rattle.std.specs.List.{Any, Contains}
use Rattle.command_outcome.specs.declared.outcome.Outcome.{Outcome}
use Rattle.command_outcome.specs.declared.outcome.Outcome.TheVariants as ends
use Rattle.command_steps.specs.Dials.{since}
use Rattle.command_steps.specs.Sources.{StoreRose, storage_of, store_at}
use Rattle.command_worlds.specs.Worlds.{FileRose, FolderRose, World}
use Rattle.command_words.specs.Locations.{index_place_of}
use Rattle.command_words.specs.declared.command.Location.{Location}
use Rattle.command_words.specs.declared.location.IndexPlace.{IndexPlace}
use Rattle.command_words.specs.declared.location.IndexPlace.TheVariants as places
use Rattle.command_words.specs.declared.location.NoLocation.{NoLocation}
use Rattle.dsy_base.specs.Counts.{Rose}
use Rattle.dsy_base.specs.Links.{DialState, Traffic}
use Rattle.index_server.specs.Fetching.{RepliesOfIndex, asks_index}
use Rattle.index_server.specs.declared.fetch_index.FetchFault.{FetchFault}
use Rattle.index_server.specs.declared.fetch_index.FetchFault.TheVariants as fetch

-- what no outcome of a command changes
pub record Spares : Type 0 where
  pub files : Bool
  pub folders : Bool
  pub dial : Bool
  pub out : Bool

-- what is spared is as before
pub record Keeps (s : Spares) (w v : World) : Type 0 where
  pub files : IsTrue s.files → v.disk.files ≡ w.disk.files
  pub folders : IsTrue s.folders → v.disk.folders ≡ w.disk.folders
  pub dial : IsTrue s.dial → v.dial ≡ w.dial
  pub out : IsTrue s.out → v.out.taken ≡ w.out.taken

-- whose files, folders and servers a command's faults are of, where the outcome doesn't name them
pub record Parts : Type 0 where
  pub image : List ℕ
  -- the operands that name indexes, by their files or by URLs
  pub indexes : List (List ℕ)
  pub stores : List Location
  pub target : List ℕ
  pub cache : List ℕ
  -- how often calls on the listener have failed before and after
  pub listener : ℕ × ℕ

-- no listener was used
abbrev pub unheard : ℕ × ℕ
unheard = (0, 0)

-- it is the reply that wasn't taken
abbrev pub IsUntaken : FetchFault → Type 0
IsUntaken (fetch.Status status) = Unit {0}
IsUntaken (fetch.Wire fault) = Unit {0}
IsUntaken other = ⊥

-- the server was asked for the index, and its reply isn't taken
pub record IsUnfetched (host : List ℕ) (port : ℕ) (path : List ℕ) (t : Traffic) : Type 0 where
  pub why : FetchFault
  pub untaken : IsUntaken why
  pub sent : t.sent ≡ asks_index host port path
  pub reply : RepliesOfIndex t (Err why)

-- a call on the dialer or on a connection has failed since, or the server's reply wasn't taken
abbrev pub IndexRose : DialState → DialState → Result IndexPlace NoLocation → Type 0
IndexRose k j (Ok (places.Http host port path)) =
    Rose k.faults j.faults ⊎ IfSome (since k.ended j.ended) (Any (IsUnfetched host port path))
IndexRose k j other = ⊥

-- the fault that is told has raised its count
abbrev pub Blames : Parts → Outcome → World → World → Type 0
Blames x ends.ImageFault w v = FileRose w.disk v.disk x.image
Blames x (ends.StoreFault s) w v = StoreRose (storage_of w) (storage_of v) (store_at x.stores s)
Blames x ends.TargetFault w v = FileRose w.disk v.disk x.target
Blames x ends.CacheFault w v = FolderRose w.disk v.disk x.cache
Blames x (ends.FileFault name) w v = FileRose w.disk v.disk name ⊎ (FolderRose w.disk v.disk name
    ⊎ (Contains x.indexes name × IndexRose w.dial v.dial (index_place_of name)))
Blames x ends.OutFault w v = Rose w.out.faults v.out.faults
Blames x ends.ListenFault w v = Rose x.listener.0 x.listener.1
Blames x other w v = Unit {0}
