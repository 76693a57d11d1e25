-- What a reader of a body has come to, by what was received after the head.
use Rattle.std.proofs.Common.{◌≡◌, ℕ, ◌+◌, ◌-◌, ◌<◌, ◌≤◌, Bool, true, false, List, [], ◌++◌, length, take, drop, Some, None, Ok, Err, refl, sym, ◌∙◌, ap, subst, inl, arith}
use Rattle.std.specs.Prelude.{Option, Result, IfErr, IfOk, IfSome, IsOk}
use Rattle.std.proofs.lemmas.List.{drop-append-le, drop-take, length-append, length-take-le}
use Rattle.dsy_base.specs.Links.{Traffic, ReadsNext}
use Rattle.http_read.proofs.Streams.{weaker}
use Rattle.http_read.specs.Reads.{Fed, IsBody, IsFault, is_over, left_in}
use Rattle.http_frames.specs.Ahead.{ahead}
use Rattle.http_frames.specs.Body.{Reading, body_in, is_whole, may_end, reads_body, body_start}
use Rattle.http_frames.specs.Seen.{ReaderKept, reading_seen}
use Rattle.http_frames.specs.Standing.{FeedAnswers, StandsFor}
use Rattle.http_frames.specs.declared.body.BodyKind.{BodyKind}
use Rattle.http_read.specs.declared.fault.Unread.{Unread}
use Rattle.http_frames.specs.declared.fault.WireFault.{WireFault}
use Rattle.http_frames.specs.declared.progress.Next.{Next}
use Rattle.http_frames.specs.declared.progress.Next.TheVariants as next

-- what was received after the head, after one read more
pub after_head : (head : ℕ) (x b : List ℕ) (old new : Option Traffic) → IfSome old (λ t. drop head t.received ≡ x)
    → IfSome old (λ t. head ≤ length t.received) → ReadsNext b old new → IfSome new (λ t. drop head t.received ≡ x ++ b)
after_head head x b None new is inside reads_body = subst (λ n. IfSome n (λ t. drop head t.received ≡ x ++ b)) (sym reads_body.received) tt
after_head head x b (Some t) new is inside reads_body =
    subst (λ n. IfSome n (λ u. drop head u.received ≡ x ++ b)) (sym reads_body.received)
    (ap (λ y. drop head (t.received ++ y)) reads_body.next ∙ drop-append-le head t.received b inside ∙ ap (λ y. y ++ b) is)

pub head_inside : (head : ℕ) (b : List ℕ) (old new : Option Traffic) → IfSome old (λ t. head ≤ length t.received)
    → ReadsNext b old new → IfSome new (λ t. head ≤ length t.received)
head_inside head b None new inside reads_body = subst (λ n. IfSome n (λ t. head ≤ length t.received)) (sym reads_body.received) tt
head_inside head b (Some t) new inside reads_body =
    subst (λ n. IfSome n (λ u. head ≤ length u.received)) (sym reads_body.received) (simp length-append (omega arith))

-- a fault of all bytes is the fault of the body
pub fault_in : (room : ℕ) (k : BodyKind) (b : List ℕ) (f : WireFault) → reads_body room (body_start k) b ≡ Err f → body_in room k b ≡ Err f
unfolding body_in
fault_in room k b f is = rw is refl

answered_fault : (k : BodyKind) (b : List ℕ) (f : WireFault) (r : Result ReaderKept WireFault) (out : List ℕ)
    → FeedAnswers {A = Unit {0}} k b (Err f) r out → reads_body (length out) (body_start k) b ≡ Err f
answered_fault k b f (Ok h) out a = absurd a
answered_fault k b f (Err e) out a = a.0

fault_is : (k : BodyKind) (head : ℕ) (b out : List ℕ) (f : WireFault) (new : Option Traffic) → reads_body (length out) (body_start k) b ≡ Err f
    → IfSome new (λ t. drop head t.received ≡ b) → IfSome new (λ t. IsFault k head (length out) t f)
fault_is k head b out f new is received =
    weaker new (λ t same.
    let read : reads_body (length out) (body_start k) (drop head t.received) ≡ Err f =
    subst (λ x. reads_body (length out) (body_start k) x ≡ Err f) (sym same) is in
    record { bytes = fault_in (length out) k (drop head t.received) f read; ended = inl read }) received

-- a piece that shows a fault shows the one of all that was received
pub fed_fault : (k : BodyKind) (head : ℕ) (old new : Option Traffic) (piece before after : List ℕ)
    (reader next : Result ReaderKept WireFault) (f : WireFault) → Fed k head old reader before → ReadsNext piece old new
    → IfOk reader (λ h. (k : BodyKind) (b : List ℕ) → StandsFor k b h before → FeedAnswers {A = Unit {0}} k (b ++ piece) (Err f) next after)
    → IfSome new (λ t. IsFault k head (length after) t f)
fed_fault k head old new piece before after reader next f fed reads_body first =
    let P : Result ReaderKept WireFault → Type 0 = λ r. IfOk r (λ h. (k : BodyKind) (b : List ℕ) → StandsFor k b h before
    → FeedAnswers {A = Unit {0}} k (b ++ piece) (Err f) next after) in
    let at : P (Ok fed.kept) = subst P fed.is first in
    fault_is k head (fed.bytes ++ piece) after f new (answered_fault k (fed.bytes ++ piece) f next after (at k fed.bytes fed.stands))
    (after_head head fed.bytes piece old new fed.received fed.inside reads_body)

-- ---- fewer bytes to come

abbrev pub Lessens : Type 0
Lessens = (k : BodyKind) (b c before after : List ℕ) (h n : ReaderKept) → StandsFor k b h before → StandsFor k (b ++ c) n after
    → length after ≡ length before → is_whole n.next ≡ false → ahead (length before) n + length c ≤ ahead (length before) h

both : (b : Bool) (P : Type 0) → (b ≡ true → P) → (b ≡ false → P) → P
both true P p q = p refl
both false P p q = q refl

answered_less : Lessens → (k : BodyKind) (b c before after : List ℕ) (h : ReaderKept) (next : Result ReaderKept WireFault)
    → StandsFor k b h before → FeedAnswers {A = Unit {0}} k (b ++ c) (Ok (tt {0})) next after → length after ≡ length before
    → 0 < length c → is_whole h.next ≡ false → left_in (length before) next < left_in (length before) (Ok h)
answered_less less k b c before after h (Err f) stands answers same some unended = absurd answers
answered_less less k b c before after h (Ok n) stands answers same some unended =
    both (is_whole n.next) (left_in (length before) (Ok n) < left_in (length before) (Ok h))
    (λ whole. rw (whole, unended) (omega arith))
    (λ more. let fewer = less k b c before after h n stands answers same more in rw (more, unended) (omega arith))

pub fed_less : Lessens → (k : BodyKind) (head : ℕ) (old : Option Traffic) (piece before after : List ℕ)
    (reader next : Result ReaderKept WireFault) → Fed k head old reader before
    → IfOk reader (λ h. (k : BodyKind) (b : List ℕ) → StandsFor k b h before → FeedAnswers {A = Unit {0}} k (b ++ piece) (Ok (tt {0})) next after)
    → length after ≡ length before → 0 < length piece → is_over reader ≡ false
    → left_in (length after) next < left_in (length before) reader
fed_less less k head old piece before after (Err f) next fed first same some unended = absurd (cc (fed.is))
fed_less less k head old piece before after (Ok h) next fed first same some unended =
    let stands : StandsFor k fed.bytes h before = subst (λ r. IfOk r (λ n. StandsFor k fed.bytes n before)) (sym fed.is) fed.stands in
    subst (λ m. left_in m next < left_in (length before) (Ok h)) (sym same)
    (answered_less less k fed.bytes piece before after h next stands (first k fed.bytes stands) same some unended)

-- ---- where reading begins and where it ends

-- a new reader that was fed its first piece
pub begins : (k : BodyKind) (piece before after : List ℕ) (reader next : Result ReaderKept WireFault) → IsOk reader
    → IfOk reader (λ h. StandsFor k [] h before)
    → IfOk reader (λ h. (k : BodyKind) (b : List ℕ) → StandsFor k b h before → FeedAnswers {A = Unit {0}} k (b ++ piece) (Ok (tt {0})) next after)
    → (head : ℕ) (traffic : Option Traffic) → IfSome traffic (λ t. (head ≤ length t.received) × (drop head t.received ≡ piece))
    → Fed k head traffic next after
begins k piece before after (Err f) next fresh none first head traffic is = absurd (cc (fresh))
begins k piece before after (Ok h) (Err e) fresh none first head traffic is = absurd (first k [] none)
begins k piece before after (Ok h) (Ok n) fresh none first head traffic is = record {
  bytes = piece;
  kept = n;
  is = refl;
  stands = first k [] none;
  received = weaker traffic (λ t p. p.1) is;
  inside = weaker traffic (λ t p. p.0) is;
}

-- or one that shows a fault
pub begins_badly : (k : BodyKind) (piece before after : List ℕ) (reader next : Result ReaderKept WireFault) (f : WireFault) → IsOk reader
    → IfOk reader (λ h. StandsFor k [] h before)
    → IfOk reader (λ h. (k : BodyKind) (b : List ℕ) → StandsFor k b h before → FeedAnswers {A = Unit {0}} k (b ++ piece) (Err f) next after)
    → (head : ℕ) (traffic : Option Traffic) → IfSome traffic (λ t. (head ≤ length t.received) × (drop head t.received ≡ piece))
    → IfSome traffic (λ t. IsFault k head (length after) t f)
begins_badly k piece before after (Err e) next f fresh none first head traffic is = absurd (cc (fresh))
begins_badly k piece before after (Ok h) next f fresh none first head traffic is =
    fault_is k head piece after f traffic (answered_fault k piece f next after (first k [] none)) (weaker traffic (λ t p. p.1) is)

-- what came behind the head
pub behind_head : (head filled : ℕ) (buffer piece : List ℕ) (traffic : Option Traffic) → head ≤ filled → filled ≤ length buffer
    → piece ≡ take (filled - head) (drop head buffer) → IfSome traffic (λ t. t.received ≡ take filled buffer)
    → IfSome traffic (λ t. (head ≤ length t.received) × (drop head t.received ≡ piece))
behind_head head filled buffer piece traffic le fits is received =
    let e : head + (filled - head) ≡ filled = omega arith in
    let all : drop head (take filled buffer) ≡ piece = ap (λ m. drop head (take m buffer)) (sym e) ∙ drop-take head (filled - head) buffer ∙ sym is in
    let size : length (take filled buffer) ≡ filled = length-take-le filled buffer fits in
    weaker traffic (λ t same. (omega (arith, ap length same, size), ap (λ r. drop head r) same ∙ all)) received

pub fits : (k : BodyKind) (head : ℕ) (traffic : Option Traffic) (reader : Result ReaderKept WireFault) (out : List ℕ) (n : ℕ)
    → Fed k head traffic reader out → IfOk reader (λ h. n ≡ h.filled) → n ≤ length out
fits k head traffic (Err f) out n fed is = absurd (cc (fed.is))
fits k head traffic (Ok h) out n fed is =
    let stands : StandsFor k fed.bytes h out = subst (λ r. IfOk r (λ n. StandsFor k fed.bytes n out)) (sym fed.is) fed.stands in
    omega (arith, stands.inside)

pub all_fit : (k : BodyKind) (head : ℕ) (traffic : Option Traffic) (reader : Result ReaderKept WireFault) (out : List ℕ) (result : Result ℕ Unread)
    → Fed k head traffic reader out → IfOk result (λ n. IfOk reader (λ h. n ≡ h.filled)) → IfOk result (λ n. n ≤ length out)
all_fit k head traffic reader out (Ok n) fed is = fits k head traffic reader out n fed is
all_fit k head traffic reader out (Err u) fed is = tt

whole_ends : (n : Next) → is_whole n ≡ true → may_end n ≡ true
whole_ends next.Whole is = refl
whole_ends next.ToEnd is = absurd (cc (is))
whole_ends next.Length is = absurd (cc (is))
whole_ends next.SizeLine is = absurd (cc (is))
whole_ends next.Chunk is = absurd (cc (is))
whole_ends next.ChunkCr is = absurd (cc (is))
whole_ends next.ChunkLf is = absurd (cc (is))
whole_ends next.Trailer is = absurd (cc (is))
whole_ends next.TrailerCr is = absurd (cc (is))
whole_ends next.TrailerLine is = absurd (cc (is))

body_is : (room : ℕ) (k : BodyKind) (b : List ℕ) (r : Reading) → reads_body room (body_start k) b ≡ Ok r → is_whole r.next ≡ true
    → body_in room k b ≡ Ok r.body
unfolding body_in
body_is room k b r is whole = rw (is, whole_ends r.next whole) refl

-- a body that is whole
pub whole_body : (k : BodyKind) (head : ℕ) (traffic : Option Traffic) (reader : Result ReaderKept WireFault) (out : List ℕ) (n : ℕ)
    → Fed k head traffic reader out → is_over reader ≡ true → IfOk reader (λ h. n ≡ h.filled)
    → IfSome traffic (λ t. IsBody k head (length out) t (take n out))
whole_body k head traffic (Err f) out n fed over is = absurd (cc (over))
whole_body k head traffic (Ok h) out n fed over is =
    let stands : StandsFor k fed.bytes h out = subst (λ r. IfOk r (λ n. StandsFor k fed.bytes n out)) (sym fed.is) fed.stands in
    let room = length out in
    let body : body_in room k fed.bytes ≡ Ok (take n out) = body_is room k fed.bytes (reading_seen h out) stands.reads over ∙ ap (λ m. Ok (take m out)) (sym is) in
    weaker traffic (λ t same. record {
      bytes = ap (λ b. body_in room k b) same ∙ body;
      ended = inl (record { reading = reading_seen h out; read = ap (λ b. reads_body room (body_start k) b) same ∙ stands.reads; whole = over });
    }) fed.received

pub unended : (reader : Result ReaderKept WireFault) (b : Bool) → IfOk reader (λ h. b ≡ is_whole h.next) → b ≡ false → is_over reader ≡ false
unended (Ok h) b is not = sym is ∙ not
unended (Err f) b is not = refl

pub over : (reader : Result ReaderKept WireFault) (b : Bool) → IfOk reader (λ h. b ≡ is_whole h.next) → IfErr reader (λ f. b ≡ false)
    → b ≡ true → is_over reader ≡ true
over (Ok h) b is fault done = sym is ∙ done
over (Err f) b is fault done = sym fault ∙ done
