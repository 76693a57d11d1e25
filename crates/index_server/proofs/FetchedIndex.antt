-- What is fetched as an index, by what was fetched as a file.
use Rattle.std.proofs.Common.{◌≡◌, ◌≢◌, ℕ, List, [], Ok, Err, Some, None, refl, ◌⊎◌, inr}
use Rattle.std.specs.Prelude.{Option, Result}
use Rattle.caibx_codec.specs.Listing.{Listing}
use Rattle.caibx_fields.specs.Limits.{file_limit}
use Rattle.dsy_base.specs.Links.{DialState, Traffic}
use Rattle.http_read.specs.Asks.{IsFront}
use Rattle.http_fetch.specs.Fetching.{CountsFetch, OnRefusal, RefusesGet}
use Rattle.http_fetch.specs.Taking.{TakesBody}
use Rattle.http_read.specs.Remotes.{AddsOne}
use Rattle.http_read.specs.Replies.{SaysStatus}
use Rattle.http_fetch.specs.declared.fetch.Unfetched.{Unfetched}
use Rattle.http_fetch.specs.declared.fetch.Unfetched.TheVariants as unfetched
use Rattle.http_wire.specs.declared.reply.Method.TheVariants as method
use Rattle.index_server.specs.Fetching.{Fetched, OnIndexReply, ReadsFetched, RepliesOfIndex, asks_index, fetch_fault}
use Rattle.index_server.specs.declared.fetch_index.FetchFault.{FetchFault}
use Rattle.index_server.specs.declared.fetch_index.FetchFault.TheVariants as fault

adds_weaker : {P Q : Traffic → Type 0} → (old new : Option (List Traffic)) → ((t : Traffic) → P t → Q t) → AddsOne P old new → AddsOne Q old new
adds_weaker None new more is = is
adds_weaker (Some ended) new more is = (is.0, is.1, more is.0 is.2)

-- ---- a body was fetched

-- no call has failed
still : {A B : Type 0} {E : Type 0} → (failed : E) (other : FetchFault) (old new : ℕ) (v : A) (r : Result B FetchFault) → r ≢ Err other → Ok v ≢ Err failed
    → CountsFetch failed old new (Ok v) → CountsFetch other old new r
still failed other old new v r differs ok counts = record { never_falls = counts.never_falls; cause = λ is. absurd (differs is); unfailed = λ _. counts.unfailed ok }

module _ (host : List ℕ) (port : ℕ) (path : List ℕ) (old new : DialState) where
  abbrev pub Calls : Type 0
  Calls = (new.ended ≡ old.ended) ⊎ AddsOne (λ t. IsFront (asks_index host port path) t.sent) old.ended new.ended

  abbrev pub Adds : (Traffic → Type 0) → Type 0
  Adds P = AddsOne (λ t. (t.sent ≡ asks_index host port path) × P t) old.ended new.ended

  -- what the reply says of an index, where its body was taken
  replies : (Taken : List ℕ → Type 0) (r : Result Listing FetchFault) → ((b : List ℕ) → Taken b → ReadsFetched b r) → Adds (TakesBody file_limit Taken)
      → OnIndexReply r (Adds (λ t. RepliesOfIndex t r))
  replies Taken (Ok l) reads adds =
      adds_weaker old.ended new.ended (λ t is. (is.0, record { bytes = is.1.bytes; body = is.1.body; file = reads is.1.bytes is.1.taken })) adds
  replies Taken (Err (fault.Bad f)) reads adds =
      adds_weaker old.ended new.ended (λ t is.
      let none = reads is.1.bytes is.1.taken in
      (is.0, record { bytes = is.1.bytes; body = is.1.body; none = none.0; first = none.1 })) adds
  replies Taken (Err fault.Memory) reads adds = tt
  replies Taken (Err fault.Failed) reads adds = tt
  replies Taken (Err fault.Absent) reads adds = adds_weaker old.ended new.ended (λ t is. absurd (reads is.1.bytes is.1.taken)) adds
  replies Taken (Err (fault.Status status)) reads adds = adds_weaker old.ended new.ended (λ t is. absurd (reads is.1.bytes is.1.taken)) adds
  replies Taken (Err (fault.Wire f)) reads adds = adds_weaker old.ended new.ended (λ t is. absurd (reads is.1.bytes is.1.taken)) adds

  pub whole : (A : Type 0) (v : A) (Taken : List ℕ → Type 0) (r : Result Listing FetchFault) → r ≢ Err fault.Failed
      → ((b : List ℕ) → Taken b → ReadsFetched b r) → Calls → Adds (TakesBody file_limit Taken)
      → CountsFetch unfetched.Failed old.faults new.faults (Ok v) → Fetched host port path old r new
  whole A v Taken r differs reads calls adds counts = record {
    calls = calls;
    reply = replies Taken r reads adds;
    lacking = λ is. inr (adds_weaker old.ended new.ended (λ t one.
        inr (record { size = one.1.body.body.size; body = one.1.body.body.body; says = one.1.body.body.says })) adds);
    faults = still unfetched.Failed fault.Failed old.faults new.faults v r differs (λ is. absurd (cc (is))) counts;
  }

  -- ---- none was

  abbrev pub Lacks : Type 0
  Lacks = (new.ended ≡ old.ended) ⊎ AddsOne (λ t. (t.sent ≡ []) ⊎ SaysStatus method.Get t 200) old.ended new.ended

  -- the same count, where both answers are alike failures or not
  alike : (A : Type 0) (why : Unfetched) → CountsFetch {A = A} unfetched.Failed old.faults new.faults (Err why)
      → CountsFetch {A = Listing} fault.Failed old.faults new.faults (Err (fetch_fault why))
  alike A unfetched.Absent counts = record { never_falls = counts.never_falls; cause = λ is. absurd (cc (is)); unfailed = λ _. counts.unfailed (λ is. absurd (cc (is))) }
  alike A (unfetched.Status status) counts = record { never_falls = counts.never_falls; cause = λ is. absurd (cc (is)); unfailed = λ _. counts.unfailed (λ is. absurd (cc (is))) }
  alike A (unfetched.Wire f) counts = record { never_falls = counts.never_falls; cause = λ is. absurd (cc (is)); unfailed = λ _. counts.unfailed (λ is. absurd (cc (is))) }
  alike A unfetched.Failed counts = record { never_falls = counts.never_falls; cause = λ _. counts.cause refl; unfailed = λ other. absurd (other refl) }
  alike A unfetched.Memory counts = record { never_falls = counts.never_falls; cause = λ is. absurd (cc (is)); unfailed = λ _. counts.unfailed (λ is. absurd (cc (is))) }

  refused : (why : Unfetched) → OnRefusal why (Adds (λ t. RefusesGet file_limit t why))
      → OnIndexReply (Err (fetch_fault why)) (Adds (λ t. RepliesOfIndex t (Err (fetch_fault why))))
  refused unfetched.Absent is = is
  refused (unfetched.Status status) is = is
  refused (unfetched.Wire f) is = is
  refused unfetched.Failed is = tt
  refused unfetched.Memory is = tt

  abbrev failing : FetchFault → Result Listing FetchFault
  failing f = Err f

  lacks : (why : Unfetched) → (why ≡ unfetched.Memory → Lacks) → failing (fetch_fault why) ≡ failing fault.Memory → Lacks
  lacks unfetched.Absent lacking is = absurd (cc (is))
  lacks (unfetched.Status status) lacking is = absurd (cc (is))
  lacks (unfetched.Wire f) lacking is = absurd (cc (is))
  lacks unfetched.Failed lacking is = absurd (cc (is))
  lacks unfetched.Memory lacking is = lacking refl

  pub none : (A : Type 0) (why : Unfetched) → Calls → OnRefusal why (Adds (λ t. RefusesGet file_limit t why)) → (why ≡ unfetched.Memory → Lacks)
      → CountsFetch {A = A} unfetched.Failed old.faults new.faults (Err why) → Fetched host port path old (Err (fetch_fault why)) new
  none A why calls reply lacking counts = record {
    calls = calls;
    reply = refused why reply;
    lacking = lacks why lacking;
    faults = alike A why counts;
  }
