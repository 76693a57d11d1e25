-- What contracts see of a store over HTTP, and how its calls change that.
use Rattle.std.specs.Prelude.{◌≡◌, ℕ, zero, suc, ◌⊎◌, List, [], ◌∷◌, ◌++◌, Option, Some, None, IfSome, Result, Err}
use Rattle.std.specs.List.{Any}
use Rattle.chunk_store.specs.Said.{Said}
use Rattle.dsy_base.specs.Counts.{raised, Rose}
use Rattle.dsy_base.specs.Links.{DialState, Traffic}
use Rattle.http_read.specs.Asks.{Server, IsFront}
use Rattle.http_read.specs.Refusals.{IsBadReply, IsUnacceptable}
use Rattle.http_read.specs.Replies.{IsDenial, IsShowing, IsLonger, IsTaking}
use Rattle.http_read.specs.declared.fault.BadReply.{BadReply}
use Rattle.http_wire.specs.declared.reply.Method.{Method}

-- a store: its dialer, its server, how many replies weren't taken, and why the last of these wasn't
pub record Remote (D : Type 0) : Type 0 where
  pub dial : D
  pub server : Server
  pub refused : ℕ
  pub last : Option BadReply

-- the connections that have ended, where they are told, what the dialer has counted, how many replies weren't taken,
-- and why the last of these wasn't
pub record Log : Type 0 where
  pub ended : Option (List Traffic)
  pub faults : ℕ
  pub refused : ℕ
  pub last : Option BadReply

-- that of a store whose dialer tells so
abbrev pub log_of : {D : Type 0} → (D → DialState) → Remote D → Log
log_of state r =
    record { ended = (state r.dial).ended; faults = (state r.dial).faults; refused = r.refused; last = r.last }

-- how often a call has failed, or a reply wasn't taken
abbrev pub faults_of : Log → ℕ
faults_of l = raised l.faults l.refused

-- one connection more has ended, and it holds for that
abbrev pub AddsOne : (Traffic → Type 0) → Option (List Traffic) → Option (List Traffic) → Type 0
AddsOne P (Some ended) new = (t : Traffic) × (new ≡ Some (ended ++ t ∷ [])) × P t
AddsOne P None new = new ≡ None

-- no reply was refused
pub record KeepsCount (old new : Log) : Type 0 where
  pub refused : new.refused ≡ old.refused
  pub last : new.last ≡ old.last

-- the reply to the ask wasn't taken: this was counted, and its reason is the last one
pub record CountsBad (m : Method) (ask : List ℕ) (room : ℕ) (old new : Log) : Type 0 where
  pub reason : BadReply
  pub refused : new.refused ≡ raised old.refused 1
  pub last : new.last ≡ Some reason
  pub reply : AddsOne (λ t. IsBadReply m ask room t reason) old.ended new.ended

-- what a call leaves that sends this ask, with this much room for a body. It makes at most one connection. It
-- fails where the dialer counted a fault or the reply wasn't taken, and only a call that fails counts such a reply
pub record Calls {A E : Type 0} (m : Method) (ask : List ℕ) (room : ℕ) (failed : E) (old new : Log)
    (result : Result A E) : Type 0 where
  pub ended : (new.ended ≡ old.ended) ⊎ AddsOne (λ t. IsFront ask t.sent) old.ended new.ended
  pub counts : KeepsCount old new ⊎ ((result ≡ Err failed) × CountsBad m ask room old new)
  pub cause : result ≡ Err failed → Rose old.faults new.faults ⊎ CountsBad m ask room old new

-- P holds of n of them at the least
abbrev pub AtLeast : {A : Type 0} → ℕ → (A → Type 0) → List A → Type 0
AtLeast zero P xs = Unit {0}
AtLeast (suc n) P [] = ⊥
AtLeast (suc n) P (x ∷ xs) = (P x × AtLeast n P xs) ⊎ AtLeast (suc n) P xs

-- for each reply that wasn't taken, a connection that has ended shows one
abbrev pub HasCause : Server → ℕ → Option (List Traffic) → Type 0
HasCause s refused ended = IfSome ended (AtLeast refused (IsUnacceptable s))

-- what a server has said on the connections that have ended. Where these aren't told nothing is known
abbrev pub said_on : Server → Option (List Traffic) → Said
said_on s ended = record {
  denied = λ id. IfSome ended (Any (IsDenial s id));
  shown = λ id b. IfSome ended (Any (IsShowing s id b));
  longer = λ id n. IfSome ended (Any (IsLonger s id n));
  taken = λ id b. IfSome ended (Any (IsTaking s id b));
  shown_by = λ k id b. (k ≡ 0) × IfSome ended (Any (IsShowing s id b));
  longer_by = λ k id n. (k ≡ 0) × IfSome ended (Any (IsLonger s id n));
}
