-- Answers to requests (RFC 9110, section 15).
use Rattle.std.specs.Prelude.{ℕ, List, []}
use Rattle.http_serve.specs.declared.service.Reply.{Reply}

-- an answer: its status, the length that it tells, and the body that is sent
pub record Answer : Type 0 where
  pub status : ℕ
  pub size : ℕ
  pub body : List ℕ

-- a status alone
abbrev pub bare : ℕ → Answer
bare status = record { status = status; size = 0; body = [] }

-- a reply as an answer
abbrev pub answer_in : Reply → Answer
answer_in r = record { status = r.status; size = r.length; body = r.body.items }
