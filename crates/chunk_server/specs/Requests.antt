-- The requests on a connection, read as those to a server of chunks. A head says one thing (`http_wire`), so that they
-- are a function of the bytes.
use Rattle.std.specs.Prelude.{◌≡◌, ℕ, List, Bool, true, if◌then◌else◌, Option}
use Rattle.httparse.specs.Grammar.{RequestHead}
use Rattle.http_serve.specs.Protocols.{RequestReading}
use Rattle.http_serve.specs.Protocols as protocols
use Rattle.http_serve.specs.Requests as requests
use Rattle.http_wire.specs.Judging.{IsRequest}
use Rattle.http_wire.specs.Request.{bad_request, is_refusal, request_of}
use Rattle.http_wire.specs.declared.request.Act.TheVariants as act
use Rattle.http_wire.specs.declared.request.Request.{Request}

-- a request with its body
abbrev pub Asked : Type 0
Asked = protocols.Asked Request

-- how many bytes follow the head: none where the request is refused
abbrev pub body_size : Request → ℕ
body_size r = if is_refusal r.act then 0 else r.body

-- whether the connection is closed behind the reply
abbrev pub closes_behind : Request → Bool
closes_behind r = r.close

-- the head says this
pub record SaysRequest (writable : Bool) (head : List ℕ) (r : Request) : Type 0 where
  pub found : (h : RequestHead) → IsRequest head h → r ≡ request_of writable h
  pub absent : ((h : RequestHead) → ¬ (IsRequest head h)) → r ≡ bad_request

-- how requests are read. One that is refused stands for a head that has no end
abbrev pub reading : Bool → RequestReading Request
reading writable = record {
  closes = closes_behind;
  size = body_size;
  endless = record { act = act.Refuse 431; close = true; body = 0 };
  says = SaysRequest writable;
}

-- these requests come one behind the other, and then what is left
abbrev pub AreRequests : Bool → Option (List ℕ) → List Asked → Option (List ℕ) → Type 0
AreRequests writable b asked left = requests.AreRequests (reading writable) b asked left

-- no request comes any more
abbrev pub IsOver : Bool → Option (List ℕ) → Type 0
IsOver writable left = requests.IsOver (reading writable) left
