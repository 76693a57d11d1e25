-- `chunk-server -s STORE -l HOST:PORT -w -n N`. Where N is 1 connections are served one after the other, else each in a
-- thread of its own.
use Rattle.std.specs.Prelude.{◌≡◌, ◌==◌, ℕ, Bool, true, false, is_some, List, Option, IfSome, Result, Ok, Err}
use Rattle.chunk_server.specs.Answers.{Answer}
use Rattle.chunk_server.specs.Shelves.{ServedFolder}
use Rattle.chunk_server.specs.Turns.{protocol}
use Rattle.chunk_store.specs.declared.id.DigestKind.{DigestKind}
use Rattle.command_outcome.specs.declared.outcome.Outcome.{Outcome}
use Rattle.command_outcome.specs.declared.outcome.Outcome.TheVariants as ends
use Rattle.command_worlds.specs.Steps.{◌>>=◌}
use Rattle.command_worlds.specs.Worlds.{OnDisk, Step, World}
use Rattle.dsy_base.specs.Disk.{Disk}
use Rattle.dsy_base.specs.Links.{LinkState, ListenState}
use Rattle.dsy_base.specs.Maps.{Map}
use Rattle.http_serve.specs.Protocols.{Protocol}
use Rattle.http_wire.specs.declared.request.Act.{Act}
use Rattle.http_wire.specs.declared.request.Request.{Request}
use Rattle.locked_shelf.specs.Endings.{EndsOver}
use Rattle.locked_shelf.specs.Keepings.{KeepsOpening}
use Rattle.locked_shelf.specs.Listening.{ServesAll, ServesSome}
use Rattle.locked_shelf.specs.declared.serve_all.AllServed.{AllServed}
use Rattle.locked_shelf.specs.declared.serve_all.AllServed.TheVariants as shared
use Rattle.server_commands.specs.Serving.{FolderServed, FolderServing, Heard, TakenUnheard}
use Rattle.server_commands.specs.Serving.{ServesInTurn, ServesInTurnShort}

-- a folder of chunks gives each answer that is right
abbrev pub any_answer : Act → List ℕ → Answer → Type 0
any_answer a body r = Unit {0}

-- how requests for chunks of this kind are read and answered
abbrev pub chunk_protocol : DigestKind → Bool → Protocol Request (Map (List ℕ))
chunk_protocol kind writable = protocol kind any_answer writable

-- connections were served at the same time, each against the files of a folder that began with the first ones, and was
-- given right chunks alone. Connections are told exactly where `tells` is true
pub record ServesAtOnce
    (kind : DigestKind) (h : Heard) (writable : Bool)
    (serves : (Bool → LinkState → Type 0) → ListenState → ListenState → Type 0)
    (old new : ServedFolder) : Type 0 where
  pub tells : Bool
  pub told : is_some h.old.coming ≡ true → tells ≡ true
  pub kept : IfSome old.files (λ first. KeepsOpening kind first new.files)
  pub served : serves (EndsOver kind old.files h.never_fails writable tells) h.old h.new

-- the answer after serving by threads
abbrev pub answer_of_sharing : AllServed → Result Unit Outcome
answer_of_sharing shared.Ended = Ok tt
answer_of_sharing shared.ListenFault = Err ends.ListenFault
answer_of_sharing shared.Memory = Err ends.Memory
answer_of_sharing shared.Short = Err ends.Memory

-- how the connections were served: one after the other where `in_turn` is true
abbrev pub ServesChunks : DigestKind → Bool → Heard → Bool → FolderServing
ServesChunks kind true h writable = ServesInTurn (chunk_protocol kind writable) h
ServesChunks kind false h writable = ServesAtOnce kind h writable ServesAll

-- and how, if there was no memory
abbrev pub ServesChunksShort : DigestKind → Bool → Heard → Bool → FolderServing
ServesChunksShort kind true h writable = ServesInTurnShort (chunk_protocol kind writable) h
ServesChunksShort kind false h writable = ServesAtOnce kind h writable ServesSome

-- the folder was served so
abbrev pub ChunksServed : DigestKind → Bool → Heard → Bool → List ℕ → Option (Map (List ℕ)) → Step Disk Unit
ChunksServed kind in_turn h writable q held =
    FolderServed h q held (ServesChunks kind in_turn h writable) (ServesChunksShort kind in_turn h writable)

-- the chunks of the store are named by a digest of this kind
abbrev pub ChunkServerEnds : DigestKind → Heard → List ℕ → Bool → ℕ → Step World Unit
ChunkServerEnds kind h store writable workers = do
  held ← OnDisk (TakenUnheard h store)
  OnDisk (ChunksServed kind (workers == 1) h writable store held)
