-- How requests of a kind are read and answered.
use Rattle.std.specs.Prelude.{ℕ, Bool, List}
use Rattle.http_serve.specs.Answers.{Answer}

-- a request with its body
pub record Asked (R : Type 0) : Type 0 where
  pub request : R
  pub body : List ℕ

-- and with its answer
pub record Turn (R : Type 0) : Type 0 where
  pub asked : Asked R
  pub answer : Answer

-- how they are read: whether the connection is closed behind the reply, how many bytes follow the head, which request
-- stands for a head that has no end, and what a head says, which is all of these bytes
pub record RequestReading (R : Type 0) : Type 1 where
  pub closes : R → Bool
  pub size : R → ℕ
  pub endless : R
  pub says : List ℕ → R → Type 0

-- how they are answered from what is held, which of it is left, and what differs in nothing that counts
pub record Answering (R M : Type 0) : Type 1 where
  pub answer_to : M → R → List ℕ → Answer
  pub files_after : M → R → List ℕ → M
  pub alike : M → M → Type 0

-- both, and the answers that may be given, also where it isn't told what is held
pub record Protocol (R M : Type 0) : Type 1 where
  pub reading : RequestReading R
  pub answering : Answering R M
  pub fair : Turn R → Type 0
