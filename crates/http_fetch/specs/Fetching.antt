-- What is fetched by one GET, with a body of at most this many bytes. Which replies are taken is this project's own.
use Rattle.std.specs.Prelude.{◌≡◌, ◌≢◌, ℕ, ◌≤◌, ◌⊎◌, Bool, true, false, nat_lt, List, length, Result, Ok, Err}
use Rattle.dsy_base.specs.Counts.{Rose, raised}
use Rattle.dsy_base.specs.Links.{Traffic}
use Rattle.http_frames.specs.declared.body.BodyKind.{BodyKind}
use Rattle.http_frames.specs.declared.body.BodyKind.TheVariants as kind
use Rattle.http_frames.specs.declared.fault.WireFault.{WireFault}
use Rattle.http_frames.specs.declared.fault.WireFault.TheVariants as faults
use Rattle.http_read.specs.Reads.{IsFault}
use Rattle.http_read.specs.Refusals.{HasBadHead, HasNoHead, IsUnwanted}
use Rattle.http_read.specs.Replies.{SaysBody, SaysHead, SaysStatus}
use Rattle.http_read.specs.declared.fault.BadReply.TheVariants as bad
use Rattle.http_read.specs.declared.fault.Unanswered.{Unanswered}
use Rattle.http_read.specs.declared.fault.Unanswered.TheVariants as unanswered
use Rattle.http_fetch.specs.declared.fetch.Unfetched.{Unfetched}
use Rattle.http_fetch.specs.declared.fetch.Unfetched.TheVariants as unfetched
use Rattle.http_wire.specs.declared.reply.Method.TheVariants as method

-- ---- the body

-- whether the Content-Length of a body is above this
abbrev pub tells_more : ℕ → BodyKind → Bool
tells_more most (kind.Length n) = nat_lt most n
tells_more most _ = false

-- these bytes, at most this many, are the body of a 200
pub record GivesBody (most : ℕ) (t : Traffic) (b : List ℕ) : Type 0 where
  pub few : length b ≤ most
  pub body : SaysBody t b

-- the body of a 200 isn't taken: its Content-Length is above this, or with this much room it has this first fault, and
-- has it whatever follows, or no more comes
pub record HasNoBody (most : ℕ) (t : Traffic) (f : WireFault) : Type 0 where
  pub size : ℕ
  pub body : BodyKind
  pub says : SaysHead method.Get t.received size (Ok (record { status = 200; body = body }))
  pub why : ((tells_more most body ≡ true) × (f ≡ faults.BodyTooLong))
      ⊎ ((tells_more most body ≡ false) × IsFault body size most t f)

-- ---- the reply

-- the reply to a GET gives no body of at most this many bytes, for this reason
abbrev pub RefusesGet : ℕ → Traffic → Unfetched → Type 0
RefusesGet most t unfetched.Absent = SaysStatus method.Get t 404
RefusesGet most t (unfetched.Status status) = SaysStatus method.Get t status × IsUnwanted method.Get status
RefusesGet most t (unfetched.Wire f) = HasNoHead t f ⊎ (HasBadHead method.Get t f ⊎ HasNoBody most t f)
RefusesGet most t unfetched.Failed = ⊥
RefusesGet most t unfetched.Memory = ⊥

-- the reply to a GET says this
abbrev pub RepliesToGet : ℕ → Traffic → Result (List ℕ) Unfetched → Type 0
RepliesToGet most t (Ok b) = GivesBody most t b
RepliesToGet most t (Err why) = RefusesGet most t why

-- P, where it was the reply that was refused
abbrev pub OnRefusal : Unfetched → Type 0 → Type 0
OnRefusal unfetched.Failed P = Unit {0}
OnRefusal unfetched.Memory P = Unit {0}
OnRefusal why P = P

-- what is answered where there is no answer
abbrev pub unfetched_of : Unanswered → Unfetched
unfetched_of (unanswered.Bad (bad.Status status)) = unfetched.Status status
unfetched_of (unanswered.Bad (bad.Wire f)) = unfetched.Wire f
unfetched_of unanswered.Failed = unfetched.Failed
unfetched_of unanswered.Memory = unfetched.Memory

-- ---- the count

-- how the count of a dialer or a connection goes: it doesn't fall, but to the greatest value that it stays at; it rises
-- where the dialer or the connection failed, and else doesn't
pub record CountsFetch {A E : Type 0} (failed : E) (old new : ℕ) (result : Result A E) : Type 0 where
  pub never_falls : raised old 0 ≤ new
  pub cause : result ≡ Err failed → Rose old new
  pub unfailed : result ≢ Err failed → new ≤ old
