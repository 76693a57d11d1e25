-- How a call of a store goes on: what it has of a connection that has ended.
use Rattle.std.specs.Prelude.{◌≡◌, ℕ, ◌≤◌, List, length, take, Option, Some, Result, Ok, Err}
use Rattle.dsy_base.specs.Counts.{raised}
use Rattle.dsy_base.specs.Links.{Traffic}
use Rattle.dsy_base.specs.declared.fault.IoFault.{IoFault}
use Rattle.dsy_base.specs.declared.fault.IoFault.TheVariants as io
use Rattle.http_read.specs.Asks.{Server}
use Rattle.http_read.specs.Remotes.{AddsOne, KeepsCount, Log}
use Rattle.http_read.specs.Replies.{IsDenial, IsLonger, IsShowing}
use Rattle.http_read.specs.declared.exchange.Got.{Got}
use Rattle.http_read.specs.declared.exchange.Got.TheVariants as got
use Rattle.http_read.specs.declared.fault.Unanswered.{Unanswered}
use Rattle.http_read.specs.declared.fault.Unanswered.TheVariants as unanswered

-- what a call answers that has no answer
abbrev pub call_fault : Unanswered → IoFault
call_fault (unanswered.Bad reason) = io.Failed
call_fault unanswered.Failed = io.Failed
call_fault unanswered.Memory = io.Memory

-- which replies it counts, and why the last wasn't taken
abbrev pub NotesRefusal : Unanswered → Log → Log → Type 0
NotesRefusal (unanswered.Bad reason) old new = (new.refused ≡ raised old.refused 1) × (new.last ≡ Some reason)
NotesRefusal unanswered.Failed old new = KeepsCount old new
NotesRefusal unanswered.Memory old new = KeepsCount old new

-- the same of any answer
abbrev pub Closes : {A : Type 0} → Result A Unanswered → Result A IoFault → Type 0
Closes (Ok x) result = result ≡ Ok x
Closes (Err refused) result = result ≡ Err (call_fault refused)

-- what the log has after an answer
abbrev pub Notes : {A : Type 0} → Result A Unanswered → Log → Log → Type 0
Notes (Ok x) old new = KeepsCount old new
Notes (Err refused) old new = NotesRefusal refused old new

-- what was obtained of a server that was asked for a chunk
abbrev pub GetsChunk : Got → Server → List ℕ → List ℕ → Option (List Traffic) → Option (List Traffic) → Type 0
GetsChunk (got.Chunk n) s id out old new = (n ≤ length out) × AddsOne (IsShowing s id (take n out)) old new
GetsChunk got.Missing s id out old new = AddsOne (IsDenial s id) old new
GetsChunk got.Longer s id out old new = AddsOne (IsLonger s id (length out)) old new
