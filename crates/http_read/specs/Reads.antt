-- What is received and sent on one connection.
use Rattle.std.specs.Prelude.{◌≡◌, ℕ, ◌+◌, ◌≤◌, ◌⊎◌, Bool, false, if◌then◌else◌, List, [], ◌++◌, length, take, drop}
use Rattle.std.specs.Prelude.{Option, Some, None, IfSome, Result, Ok, Err}
use Rattle.std.specs.Option.{option_map}
use Rattle.dsy_base.specs.Counts.{Rose}
use Rattle.dsy_base.specs.Links.{Traffic, sends}
use Rattle.http_read.specs.declared.fault.BadReply.{BadReply}
use Rattle.http_read.specs.declared.fault.BadReply.TheVariants as bad
use Rattle.http_read.specs.declared.fault.Unanswered.{Unanswered}
use Rattle.http_read.specs.declared.fault.Unanswered.TheVariants as unanswered
use Rattle.http_read.specs.declared.fault.Unread.{Unread}
use Rattle.http_read.specs.declared.fault.Unread.TheVariants as unread
use Rattle.http_read.specs.Replies.{IsWholeBody}
use Rattle.http_frames.specs.Ahead.{ahead}
use Rattle.http_frames.specs.Body.{body_in, is_whole, reads_body, body_start}
use Rattle.http_frames.specs.Seen.{ReaderKept}
use Rattle.http_frames.specs.Standing.{StandsFor}
use Rattle.http_frames.specs.declared.body.BodyKind.{BodyKind}
use Rattle.http_frames.specs.declared.fault.WireFault.{WireFault}

-- more was received, and nothing was sent
abbrev pub Receives : Option Traffic → Option Traffic → Type 0
Receives (Some t) new =
    (b : List ℕ) × (rest : List ℕ) × (new ≡ Some (record { received = t.received ++ b; coming = rest; sent = t.sent }))
Receives None new = new ≡ None

-- a front of b was sent
abbrev pub SendsFront : List ℕ → Option Traffic → Option Traffic → Type 0
SendsFront b old new = (n : ℕ) × (n ≤ length b) × (new ≡ option_map (sends (take n b)) old)

-- how a connection counts over a call that reads from it: it rose where the connection failed, and else is as before
abbrev pub CountsRead : {A : Type 0} → ℕ → ℕ → Result A Unread → Type 0
CountsRead old new (Ok x) = new ≡ old
CountsRead old new (Err (unread.Wire f)) = new ≡ old
CountsRead old new (Err unread.Failed) = (old ≤ new) × Rose old new

-- the same over an ask and its answer
abbrev pub CountsReply : {A : Type 0} → ℕ → ℕ → Result A Unanswered → Type 0
CountsReply old new (Ok x) = new ≡ old
CountsReply old new (Err (unanswered.Bad reason)) = new ≡ old
CountsReply old new (Err unanswered.Failed) = (old ≤ new) × Rose old new
CountsReply old new (Err unanswered.Memory) = new ≡ old

-- why there is no answer where something isn't read
abbrev pub unanswered_of : Unread → Unanswered
unanswered_of (unread.Wire f) = unanswered.Bad (bad.Wire f)
unanswered_of unread.Failed = unanswered.Failed

-- a fault of what was received, if it is one
abbrev pub IfWire : {A : Type 0} → Result A Unread → (WireFault → Type 0) → Type 0
IfWire (Ok x) P = Unit {0}
IfWire (Err (unread.Wire f)) P = P f
IfWire (Err unread.Failed) P = Unit {0}

-- a reply that isn't taken, if it is one
abbrev pub OnBad : Unanswered → (BadReply → Type 0) → Type 0
OnBad (unanswered.Bad reason) P = P reason
OnBad unanswered.Failed P = Unit {0}
OnBad unanswered.Memory P = Unit {0}

-- P holds of the reply that was rejected, if one was
abbrev pub IfBad : {A : Type 0} → Result A Unanswered → (BadReply → Type 0) → Type 0
IfBad (Ok x) P = Unit {0}
IfBad (Err refused) P = OnBad refused P

-- a reader was fed what was received after the head, and has met no fault
pub record Fed (k : BodyKind) (head : ℕ) (traffic : Option Traffic) (reader : Result ReaderKept WireFault)
    (out : List ℕ)
    : Type 0 where
  pub bytes : List ℕ
  pub kept : ReaderKept
  pub is : reader ≡ Ok kept
  pub stands : StandsFor k bytes kept out
  pub received : IfSome traffic (λ t. drop head t.received ≡ bytes)
  pub inside : IfSome traffic (λ t. head ≤ length t.received)

-- whether the body of a reader is whole
abbrev pub is_over : Result ReaderKept WireFault → Bool
is_over (Ok h) = is_whole h.next
is_over (Err f) = false

-- how many bytes a reader may still take, and one more where the body isn't whole
abbrev pub left_in : ℕ → Result ReaderKept WireFault → ℕ
left_in room (Ok h) = if is_whole h.next then 0 else ahead room h + 1
left_in room (Err f) = 0

-- what the body is that was received after the head, which is whole, or is all that comes
pub record IsBody (k : BodyKind) (head room : ℕ) (t : Traffic) (b : List ℕ) : Type 0 where
  pub bytes : body_in room k (drop head t.received) ≡ Ok b
  pub ended : IsWholeBody room k (drop head t.received) ⊎ (t.coming ≡ [])

-- its first fault, whatever follows, or where no more comes
pub record IsFault (k : BodyKind) (head room : ℕ) (t : Traffic) (f : WireFault) : Type 0 where
  pub bytes : body_in room k (drop head t.received) ≡ Err f
  pub ended : (reads_body room (body_start k) (drop head t.received) ≡ Err f) ⊎ (t.coming ≡ [])
