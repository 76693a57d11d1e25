-- What replies say (RFC 9112, sections 4 and 6.3), over a connection that has ended. How long a head may be, and which
-- statuses are taken, is this project's own. A head says one thing, and `body_in` is a function.
use Rattle.std.specs.Prelude.{◌≡◌, ℕ, ◌<◌, ◌≤◌, ◌⊎◌, List, [], take, drop, map, true, Result, Ok, Err}
use Rattle.dsy_base.specs.Links.{Traffic}
use Rattle.http_read.specs.Asks.{Server, asks, asks_get, asks_head, asks_put}
use Rattle.http_frames.specs.Body.{Reading, body_in, is_whole, reads_body, body_start}
use Rattle.http_frames.specs.HeadEnd.{IsFirstEnd, head_limit}
use Rattle.http_frames.specs.declared.body.BodyKind.{BodyKind}
use Rattle.http_frames.specs.declared.fault.WireFault.{WireFault}
use Rattle.http_frames.specs.declared.fault.WireFault.TheVariants as faults
use Rattle.http_wire.specs.Reply.{IsReplyHead, reply_of}
use Rattle.http_wire.specs.declared.reply.Method.{Method}
use Rattle.http_wire.specs.declared.reply.Method.TheVariants as method
use Rattle.http_wire.specs.declared.reply.ReplyHead.{ReplyHead}
use Rattle.httparse.specs.Grammar.{ResponseHead, status_code}
use Rattle.httparse.specs.Spans.{name_and_value}

-- the head is the first n of these bytes, and says this
pub record SaysHead (m : Method) (b : List ℕ) (n : ℕ) (says : Result ReplyHead WireFault) : Type 0 where
  pub ends : IsFirstEnd b n
  pub near : n ≤ head_limit
  pub found : (h : ResponseHead) → IsReplyHead (take n b) h → says
      ≡ reply_of m (status_code h) (map name_and_value h.fields)
  pub absent : ((h : ResponseHead) → ¬ (IsReplyHead (take n b) h)) → says ≡ Err faults.BadHead

-- what was received has a head with this status
pub record SaysStatus (m : Method) (t : Traffic) (status : ℕ) : Type 0 where
  pub size : ℕ
  pub body : BodyKind
  pub says : SaysHead m t.received size (Ok (record { status = status; body = body }))

-- these bytes are a whole body, whatever follows
pub record IsWholeBody (room : ℕ) (k : BodyKind) (b : List ℕ) : Type 0 where
  pub reading : Reading
  pub read : reads_body room (body_start k) b ≡ Ok reading
  pub whole : is_whole reading.next ≡ true

-- it has a head with the status 200, and these bytes are the body that follows, which is whole, or is all that comes
pub record SaysBody (t : Traffic) (b : List ℕ) : Type 0 where
  pub size : ℕ
  pub body : BodyKind
  pub room : ℕ
  pub says : SaysHead method.Get t.received size (Ok (record { status = 200; body = body }))
  pub bytes : body_in room body (drop size t.received) ≡ Ok b
  pub ended : IsWholeBody room body (drop size t.received) ⊎ (t.coming ≡ [])

-- it has a head with the status 200, and the body that follows is longer than the room for it
pub record SaysLonger (t : Traffic) (room : ℕ) : Type 0 where
  pub size : ℕ
  pub body : BodyKind
  pub says : SaysHead method.Get t.received size (Ok (record { status = 200; body = body }))
  pub bytes : body_in room body (drop size t.received) ≡ Err faults.BodyTooLong

-- the server was asked for the chunk, or whether it has it, and said that it is not there
pub record IsDenial (s : Server) (id : List ℕ) (t : Traffic) : Type 0 where
  pub by : Method
  pub reads : (by ≡ method.Get) ⊎ (by ≡ method.Head)
  pub sent : t.sent ≡ asks s by id []
  pub status : SaysStatus by t 404

-- it was asked whether it has the chunk, and said that it is there
pub record IsHolding (s : Server) (id : List ℕ) (t : Traffic) : Type 0 where
  pub sent : t.sent ≡ asks_head s id
  pub status : SaysStatus method.Head t 200

-- it was asked for the chunk, and gave these bytes
pub record IsShowing (s : Server) (id b : List ℕ) (t : Traffic) : Type 0 where
  pub sent : t.sent ≡ asks_get s id
  pub body : SaysBody t b

-- it was asked for the chunk, and gave more bytes than this
pub record IsLonger (s : Server) (id : List ℕ) (n : ℕ) (t : Traffic) : Type 0 where
  pub sent : t.sent ≡ asks_get s id
  pub body : SaysLonger t n

-- it was sent these bytes under the id, and said that it took them
pub record IsTaking (s : Server) (id b : List ℕ) (t : Traffic) : Type 0 where
  pub sent : t.sent ≡ asks_put s id b
  pub code : ℕ
  pub low : 200 ≤ code
  pub high : code < 300
  pub status : SaysStatus method.Put t code
