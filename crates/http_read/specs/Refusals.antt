-- Replies that aren't taken, and why, over a connection that has ended.
use Rattle.std.specs.Prelude.{◌≡◌, ◌≢◌, ℕ, ◌<◌, ◌≤◌, ◌⊎◌, List, [], length, drop, false, Ok, Err}
use Rattle.dsy_base.specs.Links.{Traffic}
use Rattle.http_read.specs.Asks.{Server, asks}
use Rattle.http_read.specs.Replies.{SaysHead, SaysStatus}
use Rattle.http_read.specs.declared.fault.BadReply.{BadReply}
use Rattle.http_read.specs.declared.fault.BadReply.TheVariants as bad
use Rattle.http_frames.specs.Body.{body_in, reads_body, body_start}
use Rattle.http_frames.specs.HeadEnd.{ends_at, head_limit}
use Rattle.http_frames.specs.declared.body.BodyKind.{BodyKind}
use Rattle.http_frames.specs.declared.fault.WireFault.{WireFault}
use Rattle.http_frames.specs.declared.fault.WireFault.TheVariants as faults
use Rattle.http_wire.specs.declared.reply.Method.{Method}
use Rattle.http_wire.specs.declared.reply.Method.TheVariants as method

-- no head ends in what was received: it is too long for one, or no more is to come
pub record HasNoHead (t : Traffic) (f : WireFault) : Type 0 where
  pub none : (n : ℕ) → n ≤ length t.received → n ≤ head_limit → ends_at t.received n ≡ false
  pub why : ((head_limit ≤ length t.received) × (f ≡ faults.HeadTooLong))
      ⊎ ((length t.received < head_limit) × (t.coming ≡ []) × (f ≡ faults.CutShort))

-- the head has this fault
pub record HasBadHead (m : Method) (t : Traffic) (f : WireFault) : Type 0 where
  pub size : ℕ
  pub says : SaysHead m t.received size (Err f)

-- the body of a 200 has this first fault, with this much room for it, and has it whatever follows, or no more
-- comes. One that is longer has none
pub record HasBadBody (m : Method) (room : ℕ) (t : Traffic) (f : WireFault) : Type 0 where
  pub get : m ≡ method.Get
  pub size : ℕ
  pub body : BodyKind
  pub says : SaysHead m t.received size (Ok (record { status = 200; body = body }))
  pub bytes : body_in room body (drop size t.received) ≡ Err f
  pub fits : f ≢ faults.BodyTooLong
  pub ended : (reads_body room (body_start body) (drop size t.received) ≡ Err f) ⊎ (t.coming ≡ [])

-- the statuses that aren't taken
abbrev pub IsUnwanted : Method → ℕ → Type 0
IsUnwanted method.Get status = (status ≢ 200) × (status ≢ 404)
IsUnwanted method.Head status = (status ≢ 200) × (status ≢ 404)
IsUnwanted method.Put status = (status < 200) ⊎ (300 ≤ status)

-- no head came, or one that isn't taken, for this reason
abbrev pub IsRefusedByHead : Method → Traffic → BadReply → Type 0
IsRefusedByHead m t (bad.Status status) = SaysStatus m t status × IsUnwanted m status
IsRefusedByHead m t (bad.Wire f) = HasNoHead t f ⊎ HasBadHead m t f

-- what was received isn't taken, for this reason, with this much room for a body
abbrev pub IsRefused : Method → ℕ → Traffic → BadReply → Type 0
IsRefused m room t (bad.Status status) = SaysStatus m t status × IsUnwanted m status
IsRefused m room t (bad.Wire f) = HasNoHead t f ⊎ (HasBadHead m t f ⊎ HasBadBody m room t f)

-- the reply to this ask isn't taken
pub record IsBadReply (m : Method) (ask : List ℕ) (room : ℕ) (t : Traffic) (reason : BadReply) : Type 0 where
  pub sent : t.sent ≡ ask
  pub reply : IsRefused m room t reason

-- the server was asked for something, and its reply isn't taken
pub record IsUnacceptable (s : Server) (t : Traffic) : Type 0 where
  pub by : Method
  pub id : List ℕ
  pub bytes : List ℕ
  pub room : ℕ
  pub reason : BadReply
  pub reply : IsBadReply by (asks s by id bytes) room t reason
