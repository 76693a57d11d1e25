-- What is fetched as an index by one GET, over a dialer before and after.
use Rattle.std.specs.Prelude.{◌≡◌, ℕ, ◌⊎◌, List, [], None, Result, Ok, Err}
use Rattle.caibx_codec.specs.Listing.{Listing}
use Rattle.caibx_codec.specs.Reading.{index_in}
use Rattle.caibx_codec.specs.Spelling.{IsIndexFile}
use Rattle.caibx_fields.specs.Limits.{file_limit}
use Rattle.caibx_fields.specs.declared.fault.IndexFault.{IndexFault}
use Rattle.dsy_base.specs.Links.{DialState, Traffic}
use Rattle.http_read.specs.Asks.{IsFront}
use Rattle.http_fetch.specs.Fetching.{CountsFetch, GivesBody, RefusesGet}
use Rattle.http_read.specs.Remotes.{AddsOne}
use Rattle.http_read.specs.Replies.{SaysStatus}
use Rattle.http_fetch.specs.declared.fetch.Unfetched.{Unfetched}
use Rattle.http_fetch.specs.declared.fetch.Unfetched.TheVariants as unfetched
use Rattle.http_wire.specs.Ask.{ask}
use Rattle.http_wire.specs.declared.reply.Method.TheVariants as method
use Rattle.index_server.specs.declared.fetch_index.FetchFault.{FetchFault}
use Rattle.index_server.specs.declared.fetch_index.FetchFault.TheVariants as fault

-- ---- the reply

-- a 200 whose body is the file of this index
pub record GivesIndex (t : Traffic) (l : Listing) : Type 0 where
  pub bytes : List ℕ
  pub body : GivesBody file_limit t bytes
  pub file : IsIndexFile bytes l

-- a 200 whose body is the file of no index, and this is its first fault
pub record GivesNoIndex (t : Traffic) (f : IndexFault) : Type 0 where
  pub bytes : List ℕ
  pub body : GivesBody file_limit t bytes
  pub none : (l : Listing) → IsIndexFile bytes l → ⊥
  pub first : index_in bytes ≡ Err f

-- the reply to a GET says this of an index
abbrev pub RepliesOfIndex : Traffic → Result Listing FetchFault → Type 0
RepliesOfIndex t (Ok l) = GivesIndex t l
RepliesOfIndex t (Err fault.Absent) = RefusesGet file_limit t unfetched.Absent
RepliesOfIndex t (Err (fault.Bad f)) = GivesNoIndex t f
RepliesOfIndex t (Err (fault.Status status)) = RefusesGet file_limit t (unfetched.Status status)
RepliesOfIndex t (Err (fault.Wire f)) = RefusesGet file_limit t (unfetched.Wire f)
RepliesOfIndex t (Err fault.Failed) = ⊥
RepliesOfIndex t (Err fault.Memory) = ⊥

-- what the bytes of a body are read as
abbrev pub ReadsFetched : List ℕ → Result Listing FetchFault → Type 0
ReadsFetched b (Ok l) = IsIndexFile b l
ReadsFetched b (Err (fault.Bad f)) = ((l : Listing) → IsIndexFile b l → ⊥) × (index_in b ≡ Err f)
ReadsFetched b (Err fault.Memory) = Unit {0}
ReadsFetched b (Err _) = ⊥

-- why there is no index where there is no body
abbrev pub fetch_fault : Unfetched → FetchFault
fetch_fault unfetched.Absent = fault.Absent
fetch_fault (unfetched.Status status) = fault.Status status
fetch_fault (unfetched.Wire f) = fault.Wire f
fetch_fault unfetched.Failed = fault.Failed
fetch_fault unfetched.Memory = fault.Memory

-- ---- the dialer

-- P, where it was the reply that gave the answer
abbrev pub OnIndexReply : Result Listing FetchFault → Type 0 → Type 0
OnIndexReply (Err fault.Failed) P = Unit {0}
OnIndexReply (Err fault.Memory) P = Unit {0}
OnIndexReply answer P = P

-- the whole request for an index
abbrev pub asks_index : List ℕ → ℕ → List ℕ → List ℕ
asks_index host port path = ask method.Get host port path None

-- an index was asked for at this host, port and path. At most one connection was made, and at most one ask was sent on
-- it. Where the answer is the reply's, it ended with that reply to the whole ask. Memory was lacking before anything
-- was sent, or for the body of a 200
pub record Fetched (host : List ℕ) (port : ℕ) (path : List ℕ) (old : DialState) (result : Result Listing FetchFault)
    (new : DialState) : Type 0 where
  pub calls : (new.ended ≡ old.ended) ⊎ AddsOne (λ t. IsFront (asks_index host port path) t.sent) old.ended new.ended
  pub reply : OnIndexReply result
      (AddsOne (λ t. (t.sent ≡ asks_index host port path) × RepliesOfIndex t result) old.ended new.ended)
  pub lacking : result ≡ Err fault.Memory → (new.ended ≡ old.ended)
      ⊎ AddsOne (λ t. (t.sent ≡ []) ⊎ SaysStatus method.Get t 200) old.ended new.ended
  pub faults : CountsFetch fault.Failed old.faults new.faults result
