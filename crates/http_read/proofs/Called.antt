-- One call of a store: it dialed, asked, and hung up.
use Rattle.std.proofs.Common.{◌≡◌, ℕ, ◌+◌, ◌<◌, ◌^◌, Bool, true, false, nat_le, List, Ok, Err, refl, sym, ◌∙◌, ap, subst, ◌⊎◌, inl, inr, arith}
use Rattle.std.specs.Prelude.{Option, Result, IfSome, is_some}
use Rattle.std.proofs.lemmas.Bool.Decides.{nat_tests}
use Rattle.dsy_base.specs.Counts.{Rose, raised}
use Rattle.dsy_base.specs.Links.{Traffic, with_ended}
use Rattle.dsy_base.specs.declared.fault.IoFault.{IoFault}
use Rattle.dsy_base.specs.declared.fault.IoFault.TheVariants as io
use Rattle.http_read.proofs.Ended.{adds}
use Rattle.http_read.specs.Asks.{IsFront}
use Rattle.http_read.specs.Calls.{Closes, Notes}
use Rattle.http_read.specs.Reads.{CountsReply, IfBad, OnBad}
use Rattle.http_read.specs.Refusals.{IsBadReply}
use Rattle.http_read.specs.Remotes.{Calls, CountsBad, KeepsCount, Log}
use Rattle.http_read.specs.declared.fault.BadReply.{BadReply}
use Rattle.http_read.specs.declared.fault.Unanswered.{Unanswered}
use Rattle.http_read.specs.declared.fault.Unanswered.TheVariants as unanswered
use Rattle.http_wire.specs.declared.reply.Method.{Method}

-- before, after the dialer connected, and after it hung up; what came and went, and the connection's count at both ends
pub record Exchange (A : Type 0) (m : Method) (ask : List ℕ) (room : ℕ) (old mid new : Log) (last : Option Traffic) (before after : ℕ)
    (answer : Result A Unanswered) (result : Result A IoFault) : Type 0 where
  pub dialed : mid.ended ≡ old.ended
  pub kept : KeepsCount old mid
  pub quiet : mid.faults ≡ old.faults
  pub fresh : before ≡ 0
  pub counted : CountsReply before after answer
  pub value : Closes answer result
  pub ended : new.ended ≡ with_ended mid.ended last
  pub added : new.faults ≡ raised mid.faults after
  pub notes : Notes answer mid new
  pub told : is_some old.ended ≡ true → is_some last ≡ true
  pub sent : IfSome last (λ t. IsFront ask t.sent)
  pub bad : IfBad answer (λ reason. IfSome last (λ t. IsBadReply m ask room t reason))

ended_on : (old mid new : Option (List Traffic)) (last : Option Traffic) → mid ≡ old → new ≡ with_ended mid last → new ≡ with_ended old last
ended_on old mid new last same is = is ∙ ap (λ o. with_ended o last) same

both : (b : Bool) (P : Type 0) → (b ≡ true → P) → (b ≡ false → P) → P
both true P p q = p refl
both false P p q = q refl

rose : (old new : ℕ) → (new + 1 < 2 ^ 64 → old < new) → Rose old new
rose old new less =
    both (nat_le (2 ^ 64) (new + 1)) (Rose old new) (λ full. inr (grind (arith, nat_tests))) (λ room. inl (less (grind (arith, nat_tests))))

rises : (old before after : ℕ) → before ≡ 0 → Rose before after → raised old after + 1 < 2 ^ 64 → old < raised old after
rises old before after fresh (inl lt) room = omega arith
rises old before after fresh (inr full) room = omega arith

-- the connection failed
rose_by : (old before after : ℕ) → before ≡ 0 → Rose before after → Rose old (raised old after)
rose_by old before after fresh more = rose old (raised old after) (λ room. rises old before after fresh more room)

-- ---- what the call leaves

bad_of : (A : Type 0) (m : Method) (ask : List ℕ) (room : ℕ) (old mid new : Log) (last : Option Traffic) (before after : ℕ)
    (reason : BadReply) (result : Result A IoFault)
    → Exchange A m ask room old mid new last before after (Err (unanswered.Bad reason)) result → CountsBad m ask room old new
bad_of A m ask room old mid new last before after reason result e = record {
  reason = reason;
  refused = e.notes.0 ∙ ap (λ n. raised n 1) e.kept.refused;
  last = e.notes.1;
  reply = adds (λ t. IsBadReply m ask room t reason) old.ended last new.ended e.told (ended_on old.ended mid.ended new.ended last e.dialed e.ended) e.bad;
}

counts_of : (A : Type 0) (m : Method) (ask : List ℕ) (room : ℕ) (old mid new : Log) (last : Option Traffic) (before after : ℕ)
    (answer : Result A Unanswered) (result : Result A IoFault) → Exchange A m ask room old mid new last before after answer result
    → KeepsCount old new ⊎ ((result ≡ Err io.Failed) × CountsBad m ask room old new)
counts_of A m ask room old mid new last before after (Ok x) result e =
    inl (record { refused = e.notes.refused ∙ e.kept.refused; last = e.notes.last ∙ e.kept.last })
counts_of A m ask room old mid new last before after (Err (unanswered.Bad reason)) result e =
    inr (e.value, bad_of A m ask room old mid new last before after reason result e)
counts_of A m ask room old mid new last before after (Err unanswered.Failed) result e =
    inl (record { refused = e.notes.refused ∙ e.kept.refused; last = e.notes.last ∙ e.kept.last })
counts_of A m ask room old mid new last before after (Err unanswered.Memory) result e =
    inl (record { refused = e.notes.refused ∙ e.kept.refused; last = e.notes.last ∙ e.kept.last })

cause_of : (A : Type 0) (m : Method) (ask : List ℕ) (room : ℕ) (old mid new : Log) (last : Option Traffic) (before after : ℕ)
    (answer : Result A Unanswered) (result : Result A IoFault) → Exchange A m ask room old mid new last before after answer result
    → result ≡ Err io.Failed → Rose old.faults new.faults ⊎ CountsBad m ask room old new
cause_of A m ask room old mid new last before after (Ok x) result e is =
    absurd (cc (e.value, is))
cause_of A m ask room old mid new last before after (Err (unanswered.Bad reason)) result e is =
    inr (bad_of A m ask room old mid new last before after reason result e)
cause_of A m ask room old mid new last before after (Err unanswered.Failed) result e is =
    let R : ℕ → Type 0 = λ n. Rose old.faults n in
    inl (subst R (sym (e.added ∙ ap (λ n. raised n after) e.quiet)) (rose_by old.faults before after e.fresh e.counted.1))
cause_of A m ask room old mid new last before after (Err unanswered.Memory) result e is =
    absurd (cc (e.value, is))

pub calls : (A : Type 0) (m : Method) (ask : List ℕ) (room : ℕ) (old mid new : Log) (last : Option Traffic) (before after : ℕ)
    (answer : Result A Unanswered) (result : Result A IoFault) → Exchange A m ask room old mid new last before after answer result
    → Calls m ask room io.Failed old new result
calls A m ask room old mid new last before after answer result e = record {
  ended = inr (adds (λ t. IsFront ask t.sent) old.ended last new.ended e.told (ended_on old.ended mid.ended new.ended last e.dialed e.ended) e.sent);
  counts = counts_of A m ask room old mid new last before after answer result e;
  cause = cause_of A m ask room old mid new last before after answer result e;
}

on_bad : (Q R : Type 0) (u : Unanswered) → OnBad u (λ _. Q) → (Q → R) → OnBad u (λ _. R)
on_bad Q R (unanswered.Bad reason) bad more = more bad
on_bad Q R unanswered.Failed bad more = tt
on_bad Q R unanswered.Memory bad more = tt

-- what a refusal that is a reply says of it
pub bad_said : (A Q R : Type 0) (answer : Result A Unanswered) (u : Unanswered) → answer ≡ Err u → IfBad answer (λ _. Q) → (Q → R)
    → OnBad u (λ _. R)
bad_said A Q R answer u is bad more = let P : Result A Unanswered → Type 0 = λ r. IfBad r (λ _. Q) in on_bad Q R u (subst P is bad) more
