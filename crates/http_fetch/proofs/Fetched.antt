-- What is fetched, by the reply that was received.
use Rattle.std.proofs.Common.{◌≡◌, ℕ, ◌<◌, ◌≤◌, true, false, List, length, take, drop, Err, refl, sym, subst, inl, inr, arith}
use Rattle.std.specs.Prelude.{Option, IfSome}
use Rattle.std.proofs.lemmas.Bool.Decides.{nat_tests}
use Rattle.std.proofs.lemmas.List.{length-take-le}
use Rattle.dsy_base.specs.Links.{Traffic}
use Rattle.http_frames.specs.declared.body.BodyKind.{BodyKind}
use Rattle.http_frames.specs.declared.body.BodyKind.TheVariants as kind
use Rattle.http_frames.specs.declared.fault.WireFault.{WireFault}
use Rattle.http_frames.specs.declared.fault.WireFault.TheVariants as faults
use Rattle.http_read.proofs.Given.{Says, both_are, is_200}
use Rattle.http_read.proofs.Streams.{weaker}
use Rattle.http_fetch.proofs.Lengths.{counted_read, counted_short}
use Rattle.http_fetch.specs.Fetching.{OnRefusal, RefusesGet, tells_more, unfetched_of}
use Rattle.http_fetch.specs.Taking.{HasToldSize, IsShort, TakesBody, TakesBodyFront}
use Rattle.http_read.specs.Reads.{IfWire, IsBody, IsFault, unanswered_of}
use Rattle.http_read.specs.declared.fault.Unread.{Unread}
use Rattle.http_read.specs.declared.fault.Unread.TheVariants as unread
use Rattle.http_fetch.specs.declared.fetch.Unfetched.TheVariants as unfetched
use Rattle.http_wire.specs.declared.reply.Method.TheVariants as method
use Rattle.http_wire.specs.declared.reply.ReplyHead.{ReplyHead}

-- ---- a body whose size is told

-- it came whole
pub takes_counted : (Taken : List ℕ → Type 0) (most : ℕ) (traffic : Option Traffic) (size : ℕ) (head : ReplyHead) (n : ℕ) → head.status ≡ 200 → Says method.Get traffic size head
    → HasToldSize head.body n → n ≤ most → IfSome traffic (TakesBodyFront Taken size n 0) → IfSome traffic (TakesBody most Taken)
takes_counted Taken most traffic size head n is says counted fits front =
    both_are traffic (λ t head_says taken.
    let b = drop size t.received in
    let enough : n ≤ length b = omega (arith, taken.missing) in
    let read = counted_read most head.body n b counted fits enough in
    record {
      bytes = take n b;
      body = record {
        few = omega (arith, length-take-le n b enough);
        body = record {
          size = size;
          body = head.body;
          room = most;
          says = head_says;
          bytes = read.body;
          ended = inl (record { reading = read.reading; read = read.read; whole = read.whole });
        };
      };
      taken = taken.taken;
    }) (is_200 traffic size head is says) front

tells_no_more : (most : ℕ) (k : BodyKind) (n : ℕ) → HasToldSize k n → n ≤ most → tells_more most k ≡ false
tells_no_more most kind.None n is fits = refl
tells_no_more most (kind.Length m) n is fits = let le : m ≤ most = omega (arith, is) in grind (arith, nat_tests)
tells_no_more most kind.Chunked n is fits = absurd is
tells_no_more most kind.ToEnd n is fits = absurd is

tells_too_many : (most : ℕ) (k : BodyKind) (n : ℕ) → HasToldSize k n → most < n → tells_more most k ≡ true
tells_too_many most kind.None n is long = absurd (omega (arith, is))
tells_too_many most (kind.Length m) n is long = let lt : most < m = omega (arith, is) in grind (arith, nat_tests)
tells_too_many most kind.Chunked n is long = absurd is
tells_too_many most kind.ToEnd n is long = absurd is

-- it is told to be too long
pub refuses_longer : (most : ℕ) (traffic : Option Traffic) (size : ℕ) (head : ReplyHead) (n : ℕ) → head.status ≡ 200 → Says method.Get traffic size head
    → HasToldSize head.body n → most < n → IfSome traffic (λ t. RefusesGet most t (unfetched.Wire faults.BodyTooLong))
refuses_longer most traffic size head n is says counted long =
    weaker traffic (λ t head_says.
    inr (inr (record { size = size; body = head.body; says = head_says; why = inl (tells_too_many most head.body n counted long, refl) })))
    (is_200 traffic size head is says)

-- no more came
short_refuses : (most : ℕ) (traffic : Option Traffic) (size : ℕ) (head : ReplyHead) (n : ℕ) → head.status ≡ 200 → Says method.Get traffic size head
    → HasToldSize head.body n → n ≤ most → IfSome traffic (IsShort size n) → IfSome traffic (λ t. RefusesGet most t (unfetched.Wire faults.CutShort))
short_refuses most traffic size head n is says counted fits short =
    both_are traffic (λ t head_says cut.
    let told = tells_no_more most head.body n counted fits in
    let fault : IsFault head.body size most t faults.CutShort = record { bytes = counted_short most head.body n (drop size t.received) counted fits cut.few; ended = inr cut.ended } in
    inr (inr (record { size = size; body = head.body; says = head_says; why = inr (told, fault) })))
    (is_200 traffic size head is says) short

pub uncounted_refuses : (most : ℕ) (traffic : Option Traffic) (size : ℕ) (head : ReplyHead) (n : ℕ) (u : Unread) → head.status ≡ 200
    → Says method.Get traffic size head → HasToldSize head.body n → n ≤ most
    → IfWire {A = Unit {0}} (Err u) (λ f. (f ≡ faults.CutShort) × IfSome traffic (IsShort size n))
    → OnRefusal (unfetched_of (unanswered_of u)) (IfSome traffic (λ t. RefusesGet most t (unfetched_of (unanswered_of u))))
uncounted_refuses most traffic size head n (unread.Wire f) is says counted fits short =
    subst (λ (g : WireFault). IfSome traffic (λ t. RefusesGet most t (unfetched.Wire g))) (sym short.0)
    (short_refuses most traffic size head n is says counted fits short.1)
uncounted_refuses most traffic size head n unread.Failed is says counted fits short = tt

-- ---- one whose size isn't

-- a body that came whole
pub takes_framed : (Taken : List ℕ → Type 0) (most : ℕ) (traffic : Option Traffic) (size : ℕ) (head : ReplyHead) (out : List ℕ) (n : ℕ) → head.status ≡ 200 → Says method.Get traffic size head
    → n ≤ length out → length out ≡ most → Taken (take n out) → IfSome traffic (λ t. IsBody head.body size (length out) t (take n out))
    → IfSome traffic (TakesBody most Taken)
takes_framed Taken most traffic size head out n is says inside fits taken whole =
    both_are traffic (λ t head_says body. record {
      bytes = take n out;
      body = record {
        few = omega (arith, length-take-le n out inside, fits);
        body = record { size = size; body = head.body; room = length out; says = head_says; bytes = body.bytes; ended = body.ended };
      };
      taken = taken;
    }) (is_200 traffic size head is says) whole

tells_none : (most : ℕ) (k : BodyKind) → ((n : ℕ) → HasToldSize k n → ⊥) → tells_more most k ≡ false
tells_none most kind.None untold = absurd (untold 0 refl)
tells_none most (kind.Length m) untold = absurd (untold m refl)
tells_none most kind.Chunked untold = refl
tells_none most kind.ToEnd untold = refl

-- one with a fault
has_no_body : (most : ℕ) (traffic : Option Traffic) (size : ℕ) (head : ReplyHead) (room : ℕ) (f : WireFault) → head.status ≡ 200
    → Says method.Get traffic size head → ((n : ℕ) → HasToldSize head.body n → ⊥) → room ≡ most
    → IfSome traffic (λ t. IsFault head.body size room t f) → IfSome traffic (λ t. RefusesGet most t (unfetched.Wire f))
has_no_body most traffic size head room f is says untold same fault =
    both_are traffic (λ t head_says wrong.
    let here : IsFault head.body size most t f = subst (λ r. IsFault head.body size r t f) same wrong in
    inr (inr (record { size = size; body = head.body; says = head_says; why = inr (tells_none most head.body untold, here) })))
    (is_200 traffic size head is says) fault

pub unread_refuses : (most : ℕ) (traffic : Option Traffic) (size : ℕ) (head : ReplyHead) (room : ℕ) (u : Unread) → head.status ≡ 200
    → Says method.Get traffic size head → ((n : ℕ) → HasToldSize head.body n → ⊥) → room ≡ most
    → IfWire {A = ℕ} (Err u) (λ f. IfSome traffic (λ t. IsFault head.body size room t f))
    → OnRefusal (unfetched_of (unanswered_of u)) (IfSome traffic (λ t. RefusesGet most t (unfetched_of (unanswered_of u))))
unread_refuses most traffic size head room (unread.Wire f) is says untold same fault = has_no_body most traffic size head room f is says untold same fault
unread_refuses most traffic size head room unread.Failed is says untold same fault = tt
