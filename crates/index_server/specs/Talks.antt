-- A connection to a server of indexes as a whole.
use Rattle.std.specs.Prelude.{◌≡◌, ℕ, List, Bool, true, if◌then◌else◌, Option, Some}
use Rattle.dsy_base.specs.Maps.{Map}
use Rattle.httparse.specs.Grammar.{RequestHead}
use Rattle.http_serve.specs.Protocols.{Answering, Asked, Protocol, RequestReading}
use Rattle.http_serve.specs.Requests.{AreRequests, IsOver}
use Rattle.http_serve.specs.Turns.{files_left, replies, turns_of}
use Rattle.http_wire.specs.IndexRequest.{bad_index_request, index_request_of, is_refused}
use Rattle.http_wire.specs.Judging.{IsRequest}
use Rattle.http_wire.specs.declared.index_request.IndexAct.TheVariants as act
use Rattle.http_wire.specs.declared.index_request.IndexRequest.{IndexRequest}
use Rattle.index_server.specs.Answers.{SameButTemporaries, IsIndexAnswer, index_answer_to, index_files_after}

-- how many bytes follow the head: none where the request is refused
abbrev pub index_body_size : IndexRequest → ℕ
index_body_size r = if is_refused r.act then 0 else r.body

-- whether the connection is closed behind the reply
abbrev pub index_closes : IndexRequest → Bool
index_closes r = r.close

-- the head says this
pub record SaysIndexRequest (writable : Bool) (head : List ℕ) (r : IndexRequest) : Type 0 where
  pub found : (h : RequestHead) → IsRequest head h → r ≡ index_request_of writable h
  pub absent : ((h : RequestHead) → ¬ (IsRequest head h)) → r ≡ bad_index_request

-- how requests are read. One that is refused stands for a head that has no end
abbrev pub index_reading : Bool → RequestReading IndexRequest
index_reading writable = record {
  closes = index_closes;
  size = index_body_size;
  endless = record { act = act.Refuse 431; close = true; body = 0 };
  says = SaysIndexRequest writable;
}

-- how requests are answered
abbrev pub index_answering : Answering IndexRequest (Map (List ℕ))
index_answering = record {
  answer_to = λ m r body. index_answer_to m r.act body;
  files_after = λ m r body. index_files_after m r.act body;
  alike = SameButTemporaries;
}

-- both, with the answers that may be given
abbrev pub index_protocol : Bool → Protocol IndexRequest (Map (List ℕ))
index_protocol writable = record {
  reading = index_reading writable;
  answering = index_answering;
  fair = λ t. IsIndexAnswer t.asked.request.act t.asked.body t.answer;
}

-- the bytes that are sent, and the files that are left, where b is all that comes and these are the files
pub record IndexTalk (writable : Bool) (b : List ℕ) (files : Map (List ℕ)) (sent : List ℕ) (left : Map (List ℕ))
    : Type 0 where
  pub asked : List (Asked IndexRequest)
  pub rest : Option (List ℕ)
  pub comes : AreRequests (index_reading writable) (Some b) asked rest
  pub over : IsOver (index_reading writable) rest
  pub answers : sent ≡ replies index_closes (turns_of index_answering files asked)
  pub leaves : left ≡ files_left index_answering files asked
