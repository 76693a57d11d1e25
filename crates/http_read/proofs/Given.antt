-- What an answer gives, by the reply that was received.
use Rattle.std.proofs.Common.{◌≡◌, ◌≢◌, ℕ, ◌≤◌, List, length, take, None, Some, Ok, Err, refl, subst, inr}
use Rattle.std.specs.Prelude.{Option, Result, IfOk, IfSome}
use Rattle.dsy_base.specs.Links.{Traffic}
use Rattle.http_read.proofs.Streams.{weaker}
use Rattle.http_read.specs.Answers.{AnswersGet, got_of}
use Rattle.http_read.specs.Reads.{CountsReply, CountsRead, IfBad, IfWire, IsBody, IsFault}
use Rattle.http_read.specs.Refusals.{IsRefused, IsUnwanted}
use Rattle.http_read.specs.Replies.{SaysHead, SaysLonger, SaysStatus}
use Rattle.http_read.specs.declared.fault.BadReply.TheVariants as bad
use Rattle.http_read.specs.declared.fault.Unread.{Unread}
use Rattle.http_read.specs.declared.fault.Unread.TheVariants as unread
use Rattle.http_frames.specs.declared.fault.WireFault.{WireFault}
use Rattle.http_frames.specs.declared.fault.WireFault.TheVariants as faults
use Rattle.http_wire.specs.declared.reply.Method.{Method}
use Rattle.http_wire.specs.declared.reply.Method.TheVariants as method
use Rattle.http_wire.specs.declared.reply.ReplyHead.{ReplyHead}

-- the head of a connection says this
abbrev pub Says : Method → Option Traffic → ℕ → ReplyHead → Type 0
Says m traffic size head = IfSome traffic (λ t. SaysHead m t.received size (Ok head))

-- a head with this status
pub has_status : (m : Method) (traffic : Option Traffic) (size : ℕ) (head : ReplyHead) (status : ℕ) → head.status ≡ status
    → Says m traffic size head → IfSome traffic (λ t. SaysStatus m t status)
has_status m traffic size head status is says =
    weaker traffic (λ t head_says. record {
      size = size;
      body = head.body;
      says = subst (λ n. SaysHead m t.received size (Ok (record { status = n; body = head.body }))) is head_says;
    }) says

-- a status that isn't wanted
pub is_unwanted : (m : Method) (room : ℕ) (traffic : Option Traffic) (size : ℕ) (head : ReplyHead) → IsUnwanted m head.status
    → Says m traffic size head → IfSome traffic (λ t. IsRefused m room t (bad.Status head.status))
is_unwanted m room traffic size head unwanted says =
    weaker traffic (λ t status. (status, unwanted)) (has_status m traffic size head head.status refl says)

pub both_are : {P Q R : Traffic → Type 0} → (o : Option Traffic) → ((t : Traffic) → P t → Q t → R t) → IfSome o P → IfSome o Q → IfSome o R
both_are None f p q = tt
both_are (Some t) f p q = f t p q

abbrev pub Says200 : Traffic → ℕ → ReplyHead → Type 0
Says200 t size head = SaysHead method.Get t.received size (Ok (record { status = 200; body = head.body }))

pub is_200 : (traffic : Option Traffic) (size : ℕ) (head : ReplyHead) → head.status ≡ 200 → Says method.Get traffic size head
    → IfSome traffic (λ t. Says200 t size head)
is_200 traffic size head is says =
    weaker traffic (λ t head_says. subst (λ n. SaysHead method.Get t.received size (Ok (record { status = n; body = head.body }))) is head_says) says

-- what was read behind a head
pub record Behind (traffic : Option Traffic) (size : ℕ) (head : ReplyHead) (out : List ℕ) (r : Result ℕ Unread) : Type 0 where
  pub status : head.status ≡ 200
  pub says : Says method.Get traffic size head
  pub inside : IfOk r (λ n. n ≤ length out)
  pub ok : IfOk r (λ n. IfSome traffic (λ t. IsBody head.body size (length out) t (take n out)))
  pub first : IfWire r (λ f. IfSome traffic (λ t. IsFault head.body size (length out) t f))

gives_longer : (traffic : Option Traffic) (size : ℕ) (head : ReplyHead) (out : List ℕ) → head.status ≡ 200
    → Says method.Get traffic size head → IfSome traffic (λ t. IsFault head.body size (length out) t faults.BodyTooLong)
    → IfSome traffic (λ t. SaysLonger t (length out))
gives_longer traffic size head out is says fault =
    both_are traffic (λ t head_says longer. record { size = size; body = head.body; says = head_says; bytes = longer.bytes })
    (is_200 traffic size head is says) fault

pub gives : (traffic : Option Traffic) (size : ℕ) (head : ReplyHead) (out : List ℕ) (r : Result ℕ Unread)
    → Behind traffic size head out r → IfOk (got_of r) (λ got. AnswersGet got out traffic)
gives traffic size head out (Ok n) behind = (
  behind.inside,
  both_are traffic (λ t head_says body. record {
    size = size;
    body = head.body;
    room = length out;
    says = head_says;
    bytes = body.bytes;
    ended = body.ended;
  }) (is_200 traffic size head behind.status behind.says) behind.ok,
)
gives traffic size head out (Err unread.Failed) behind = tt
gives traffic size head out (Err (unread.Wire faults.HeadTooLong)) behind = tt
gives traffic size head out (Err (unread.Wire faults.BadHead)) behind = tt
gives traffic size head out (Err (unread.Wire faults.Framing)) behind = tt
gives traffic size head out (Err (unread.Wire faults.BadChunk)) behind = tt
gives traffic size head out (Err (unread.Wire faults.BodyTooLong)) behind = gives_longer traffic size head out behind.status behind.says behind.first
gives traffic size head out (Err (unread.Wire faults.CutShort)) behind = tt

bad_body : (traffic : Option Traffic) (size : ℕ) (head : ReplyHead) (room : ℕ) (f : WireFault) → head.status ≡ 200
    → Says method.Get traffic size head → f ≢ faults.BodyTooLong → IfSome traffic (λ t. IsFault head.body size room t f)
    → IfSome traffic (λ t. IsRefused method.Get room t (bad.Wire f))
bad_body traffic size head room f is says other fault =
    both_are traffic (λ t head_says wrong. inr (inr (record {
      get = refl;
      size = size;
      body = head.body;
      says = head_says;
      bytes = wrong.bytes;
      fits = other;
      ended = wrong.ended;
    }))) (is_200 traffic size head is says) fault

pub refuses : (traffic : Option Traffic) (size : ℕ) (head : ReplyHead) (out : List ℕ) (r : Result ℕ Unread)
    → Behind traffic size head out r → IfBad (got_of r) (λ reason. IfSome traffic (λ t. IsRefused method.Get (length out) t reason))
refuses traffic size head out (Ok n) behind = tt
refuses traffic size head out (Err unread.Failed) behind = tt
refuses traffic size head out (Err (unread.Wire faults.HeadTooLong)) behind =
    bad_body traffic size head (length out) faults.HeadTooLong behind.status behind.says (λ is. absurd (cc (is))) behind.first
refuses traffic size head out (Err (unread.Wire faults.BadHead)) behind =
    bad_body traffic size head (length out) faults.BadHead behind.status behind.says (λ is. absurd (cc (is))) behind.first
refuses traffic size head out (Err (unread.Wire faults.Framing)) behind =
    bad_body traffic size head (length out) faults.Framing behind.status behind.says (λ is. absurd (cc (is))) behind.first
refuses traffic size head out (Err (unread.Wire faults.BadChunk)) behind =
    bad_body traffic size head (length out) faults.BadChunk behind.status behind.says (λ is. absurd (cc (is))) behind.first
refuses traffic size head out (Err (unread.Wire faults.BodyTooLong)) behind = tt
refuses traffic size head out (Err (unread.Wire faults.CutShort)) behind =
    bad_body traffic size head (length out) faults.CutShort behind.status behind.says (λ is. absurd (cc (is))) behind.first

pub counts : (old new : ℕ) (r : Result ℕ Unread) → CountsRead old new r → CountsReply old new (got_of r)
counts old new (Ok n) is = is
counts old new (Err unread.Failed) is = is
counts old new (Err (unread.Wire faults.HeadTooLong)) is = is
counts old new (Err (unread.Wire faults.BadHead)) is = is
counts old new (Err (unread.Wire faults.Framing)) is = is
counts old new (Err (unread.Wire faults.BadChunk)) is = is
counts old new (Err (unread.Wire faults.BodyTooLong)) is = is
counts old new (Err (unread.Wire faults.CutShort)) is = is
