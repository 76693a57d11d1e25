-- Connections that have ended, and how each was served.
use Rattle.std.specs.Prelude.{◌≡◌, ℕ, ◌⊎◌, ◌++◌, Bool, true, false, List, map, Option, Some, IfSome, All, is_some}
use Rattle.chunk_server.specs.Answers.{Answer}
use Rattle.chunk_server.specs.Requests.{AreRequests, IsOver}
use Rattle.chunk_server.specs.Turns.{IsFair, SendsMost, Turn, replies}
use Rattle.chunk_store.specs.declared.id.DigestKind.{DigestKind}
use Rattle.dsy_base.specs.Counts.{Rose}
use Rattle.dsy_base.specs.Links.{LinkState, Traffic}
use Rattle.dsy_base.specs.Maps.{Map}
use Rattle.http_wire.specs.declared.request.Act.{Act}
use Rattle.locked_shelf.specs.Replies.{MayReply}

-- all that a peer has given and will give
abbrev pub given_by : Traffic → List ℕ
given_by t = t.received ++ t.coming

module _ (kind : DigestKind) (may : Act → List ℕ → Answer → Type 0) (writable : Bool) where
  -- exactly the replies to all requests of the peer were sent, each of them one that may be given
  pub record IsAnswered (t : Traffic) : Type 0 where
    pub turns : List Turn
    pub left : Option (List ℕ)
    pub comes : AreRequests writable (Some (given_by t)) (map (λ x. x.asked) turns) left
    pub over : IsOver writable left
    pub fair : All (IsFair kind may) turns
    pub sent : t.sent ≡ replies turns

  -- such replies were sent to the first requests, of the last one maybe a front
  pub record IsBrokenOff (t : Traffic) : Type 0 where
    pub turns : List Turn
    pub left : Option (List ℕ)
    pub comes : AreRequests writable (Some (given_by t)) (map (λ x. x.asked) turns) left
    pub fair : All (IsFair kind may) turns
    pub sent : SendsMost turns t.sent

  -- a connection has ended: all was answered, or a call on it has failed and it was broken off, or, where `lacking` is
  -- true, no call on it has failed and there was no memory for it
  abbrev pub HasEndedSo : Bool → LinkState → Type 0
  HasEndedSo false l = IfSome l.traffic IsAnswered ⊎ (Rose 0 l.faults × IfSome l.traffic IsBrokenOff)
  HasEndedSo true l = (l.faults ≡ 0) × IfSome l.traffic IsBrokenOff

-- the same, where the bytes are told exactly where `tells` is true
pub record EndsServing
    (kind : DigestKind) (may : Act → List ℕ → Answer → Type 0) (writable tells lacking : Bool) (l : LinkState)
    : Type 0 where
  pub told : is_some l.traffic ≡ tells
  pub so : HasEndedSo kind may writable lacking l

-- the same over a folder whose type names the digest of its chunks, and the files that it began with
abbrev pub EndsOver : DigestKind → Option (Map (List ℕ)) → Bool → Bool → Bool → Bool → LinkState → Type 0
EndsOver kind opening never_fails writable tells = EndsServing kind (MayReply kind opening never_fails) writable tells

-- a connection that has ended, and whether there was no memory to serve it
pub record Gone (K : Type 0) : Type 0 where
  pub link : K
  pub lacking : Bool
