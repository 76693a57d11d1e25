-- A connection as a whole: requests for chunks in order and their answers.
use Rattle.std.specs.Prelude.{◌≡◌, ℕ, List, Bool, false, Option}
use Rattle.chunk_store.specs.declared.id.DigestKind.{DigestKind}
use Rattle.dsy_base.specs.Links.{Traffic}
use Rattle.dsy_base.specs.Maps.{Map}
use Rattle.http_serve.specs.Protocols.{Answering, Protocol}
use Rattle.http_serve.specs.Protocols as protocols
use Rattle.http_serve.specs.Turns as turns
use Rattle.http_wire.specs.Request.{is_refusal}
use Rattle.http_wire.specs.declared.request.Act.{Act}
use Rattle.http_wire.specs.declared.request.Request.{Request}
use Rattle.chunk_server.specs.Answers.{Answer, answer_to, files_after}
use Rattle.chunk_server.specs.Requests.{Asked, closes_behind, reading}
use Rattle.chunk_server.specs.Shelves.{AreTemporariesApart, IsAnswer, ServedFolder}

-- a request and its answer
abbrev pub Turn : Type 0
Turn = protocols.Turn Request

-- all replies
abbrev pub replies : List Turn → List ℕ
replies ts = turns.replies closes_behind ts

-- ---- over files that are told and never fail

-- how requests are answered
abbrev pub answering : DigestKind → Answering Request (Map (List ℕ))
answering kind = record {
  answer_to = λ m r body. answer_to kind m r.act body;
  files_after = λ m r body. files_after kind m r.act body;
  alike = AreTemporariesApart;
}

-- the requests in order, each answered against the files that the one before it left
abbrev pub turns_of : DigestKind → Map (List ℕ) → List Asked → List Turn
turns_of kind files asked = turns.turns_of (answering kind) files asked

-- and the files that all of them leave
abbrev pub files_left : DigestKind → Map (List ℕ) → List Asked → Map (List ℕ)
files_left kind files asked = turns.files_left (answering kind) files asked

-- ---- over any shelf

-- the turns were taken one after the other, each as the files say or with a fault
abbrev pub Takes : DigestKind → ServedFolder → List Turn → ServedFolder → Type 0
Takes kind old ts new = turns.Takes (answering kind) old ts new

-- an answer that the shelf may give. What is refused isn't shown to it
pub record IsFair (kind : DigestKind) (may : Act → List ℕ → Answer → Type 0) (t : Turn) : Type 0 where
  pub answer : IsAnswer kind t.asked.request.act t.answer
  pub allowed : is_refusal t.asked.request.act ≡ false → may t.asked.request.act t.asked.body t.answer

-- how a shelf reads and answers requests
abbrev pub protocol : DigestKind → (Act → List ℕ → Answer → Type 0) → Bool → Protocol Request (Map (List ℕ))
protocol kind may writable =
    record { reading = reading writable; answering = answering kind; fair = IsFair kind may }

-- all replies were sent but for a rest of the last one
abbrev pub SendsMost : List Turn → List ℕ → Type 0
SendsMost ts sent = turns.SendsMost closes_behind ts sent

-- turns were taken, and the connection was broken off while the last reply was sent
abbrev pub BreaksOff : DigestKind → (Act → List ℕ → Answer → Type 0) → Bool → List ℕ → List ℕ → ServedFolder
    → Option (List ℕ) → List ℕ → ServedFolder → Type 0
BreaksOff kind may writable left before old after told new =
    turns.BreaksOff (protocol kind may writable) left before old after told new

-- a connection that was served to its end, which had received nothing yet that wasn't looked at
abbrev pub Served : DigestKind → (Act → List ℕ → Answer → Type 0) → Bool → Traffic → ServedFolder → Traffic
    → ServedFolder → Type 0
Served kind may writable t old u new = turns.Served (protocol kind may writable) t old u new

-- one on which a call has failed
abbrev pub Cut : DigestKind → (Act → List ℕ → Answer → Type 0) → Bool → Traffic → ServedFolder → Traffic → ServedFolder
    → Type 0
Cut kind may writable t old u new = turns.Cut (protocol kind may writable) t old u new

-- one for which there was no memory
abbrev pub Lacking : DigestKind → (Act → List ℕ → Answer → Type 0) → Bool → Traffic → ServedFolder → Traffic
    → ServedFolder → Type 0
Lacking kind may writable t old u new = turns.Lacking (protocol kind may writable) t old u new
