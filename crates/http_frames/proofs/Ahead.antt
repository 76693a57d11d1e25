-- Each byte of a body leaves fewer to come.
use Rattle.std.proofs.Common.{◌≡◌, ℕ, ◌+◌, ◌-◌, ◌<◌, ◌≤◌, ◌==◌, Bool, true, false, nat_lt, nat_le, List, [], ◌∷◌, ◌++◌, length, Option, Some, None, Result, Ok, Err, refl, sym, ap, ◌∙◌, subst, arith}
use Rattle.std.proofs.lemmas.Bool.Decides.{nat_tests}
use Rattle.std.proofs.lemmas.List.{length-append, length-take-le}
use Rattle.http_frames.proofs.Runs.{reads-append}
use Rattle.http_frames.specs.Ahead.{ahead, ahead_at}
use Rattle.http_frames.specs.Body.{Reading, appended, counted, expected, in_line, push_to_body, push_at, reads_body, sized, body_start, trailed, first_next, missing_bytes, is_whole, ◌>>=◌}
use Rattle.http_frames.specs.Seen.{ReaderKept, Misses, reading_seen}
use Rattle.http_frames.specs.SizeLine.{size_in}
use Rattle.http_frames.specs.Standing.{StandsFor}
use Rattle.http_frames.specs.declared.body.BodyKind.{BodyKind}
use Rattle.http_frames.specs.declared.body.BodyKind.TheVariants as kind
use Rattle.http_frames.specs.declared.fault.WireFault.{WireFault}
use Rattle.http_frames.specs.declared.progress.Next.{Next}
use Rattle.http_frames.specs.declared.progress.Next.TheVariants as next

-- what a reader would keep of it
abbrev kept_in : Reading → ReaderKept
kept_in r = record { next = r.next; left = r.left; line = r.line; trailer = r.trailer; filled = length r.body }

abbrev at : Next → ℕ → List ℕ → ℕ → List ℕ → Reading
at n left line trailer body = record { next = n; left = left; line = line; trailer = trailer; body = body }

-- this many bytes lead from r to s, and if s isn't whole, that many fewer can come
record Leaves (room : ℕ) (n : ℕ) (r s : Reading) : Type 0 where
  misses : Misses s.next s.left
  fewer : is_whole s.next ≡ false → (is_whole r.next ≡ false) × (ahead room (kept_in s) + n ≤ ahead room (kept_in r))

abbrev Lessens : ℕ → ℕ → Reading → Result Reading WireFault → Type 0
Lessens room n r (Ok s) = Leaves room n r s
Lessens room n r (Err f) = Unit {0}

both : (b : Bool) (P : Type 0) → (b ≡ true → P) → (b ≡ false → P) → P
both true P p q = p refl
both false P p q = q refl

sized_lessens : (room left : ℕ) (line : List ℕ) (trailer : ℕ) (body : List ℕ) (o : Option ℕ)
    → Lessens room 1 (at next.SizeLine left line trailer body) (sized room (at next.SizeLine left line trailer body) o)
unfolding sized ahead_at
sized_lessens room left line trailer body None = tt
sized_lessens room left line trailer body (Some n) =
    both (n == 0) (Lessens room 1 (at next.SizeLine left line trailer body) (sized room (at next.SizeLine left line trailer body) (Some n)))
    (λ test. rw test (record { misses = tt; fewer = λ _. (refl, omega arith) }))
    (λ test. both (nat_lt room (length body + n)) (Lessens room 1 (at next.SizeLine left line trailer body) (sized room (at next.SizeLine left line trailer body) (Some n)))
    (λ more. rw (test, more) tt)
    (λ fits.
    let some : 0 < n = grind (arith, nat_tests) in
    rw (test, fits) (record { misses = some; fewer = λ _. (refl, omega arith) })))

counted_lessens : (this after : Next) (room left : ℕ) (line : List ℕ) (trailer : ℕ) (body : List ℕ) (x : ℕ)
    → 0 < left → is_whole this ≡ false → Misses after (left - 1)
    → (1 < left → Misses this (left - 1))
    → (length body + left ≤ room → is_whole after ≡ false
    → ahead room (kept_in (at after (left - 1) line trailer (body ++ x ∷ []))) + 1 ≤ ahead room (kept_in (at this left line trailer body)))
    → (length body + left ≤ room → 1 < left
    → ahead room (kept_in (at this (left - 1) line trailer (body ++ x ∷ []))) + 1 ≤ ahead room (kept_in (at this left line trailer body)))
    → Lessens room 1 (at this left line trailer body) (counted this after room (at this left line trailer body) x)
unfolding counted
counted_lessens this after room left line trailer body x some unended missed misses last more =
    let r = at this left line trailer body in
    both (nat_lt room (length body + left)) (Lessens room 1 r (counted this after room r x))
    (λ test. rw test tt)
    (λ test.
    let fits : length body + left ≤ room = grind (arith, nat_tests) in
    both (nat_le left 1) (Lessens room 1 r (counted this after room r x))
    (λ one. rw (test, one) (record { misses = missed; fewer = λ open_after. (unended, last fits open_after) }))
    (λ two.
    let many : 1 < left = grind (arith, nat_tests) in
    rw (test, two) (record { misses = misses many; fewer = λ _. (unended, more fits many) })))

trailed_lessens : (this after : Next) (room left : ℕ) (line : List ℕ) (trailer : ℕ) (body : List ℕ) → is_whole this ≡ false
    → Misses after left
    → (trailer + 1 < 16384 → ahead room (kept_in (at after left line (trailer + 1) body)) + 1 ≤ ahead room (kept_in (at this left line trailer body)))
    → Lessens room 1 (at this left line trailer body) (trailed after (at this left line trailer body))
unfolding trailed
trailed_lessens this after room left line trailer body unended misses less =
    let r = at this left line trailer body in
    both (nat_le 16384 (trailer + 1)) (Lessens room 1 r (trailed after r))
    (λ test. rw test tt)
    (λ test.
    let fits : trailer + 1 < 16384 = grind (arith, nat_tests) in
    rw test (record { misses = misses; fewer = λ _. (unended, less fits) }))

true_false : {P : Type 0} → true ≡ false → P
true_false h = absurd (cc)

-- one byte
byte_lessens : (n : Next) (room left : ℕ) (line : List ℕ) (trailer : ℕ) (body : List ℕ) (x : ℕ) → Misses n left
    → Lessens room 1 (at n left line trailer body) (push_at n room (at n left line trailer body) x)
unfolding push_at appended in_line expected ahead_at
byte_lessens next.Whole room left line trailer body x miss = record { misses = tt; fewer = λ h. true_false h }
byte_lessens next.ToEnd room left line trailer body x miss =
    let r = at next.ToEnd left line trailer body in
    both (nat_le room (length body)) (Lessens room 1 r (push_at next.ToEnd room r x))
    (λ test. rw test tt)
    (λ test.
    let fits : length body < room = grind (arith, nat_tests) in
    rw test (record { misses = tt; fewer = λ _. (refl, omega (arith, length-append body (x ∷ []))) }))
byte_lessens next.Length room left line trailer body x miss =
    counted_lessens next.Length next.Whole room left line trailer body x miss refl tt (λ many. omega arith)
    (λ fits h. true_false h) (λ fits many. omega arith)
byte_lessens next.SizeLine room left line trailer body x miss =
    let r = at next.SizeLine left line trailer body in
    both (x == 10) (Lessens room 1 r (push_at next.SizeLine room r x))
    (λ test. rw test (sized_lessens room left line trailer body (size_in (line ++ x ∷ []))))
    (λ test. both (nat_le 256 (length line + 1)) (Lessens room 1 r (push_at next.SizeLine room r x))
    (λ long. rw (test, long) tt)
    (λ short.
    let fits : length line + 1 < 256 = grind (arith, nat_tests) in
    rw (test, short) (record { misses = tt; fewer = λ _. (refl, omega (arith, length-append line (x ∷ []))) })))
byte_lessens next.Chunk room left line trailer body x miss =
    counted_lessens next.Chunk next.ChunkCr room left line trailer body x miss refl tt (λ many. omega arith)
    (λ fits h. omega (arith, length-append body (x ∷ []))) (λ fits many. omega (arith, length-append body (x ∷ [])))
byte_lessens next.ChunkCr room left line trailer body x miss =
    let r = at next.ChunkCr left line trailer body in
    both (x == 13) (Lessens room 1 r (push_at next.ChunkCr room r x))
    (λ test. rw test (record { misses = tt; fewer = λ _. (refl, omega arith) }))
    (λ test. rw test tt)
byte_lessens next.ChunkLf room left line trailer body x miss =
    let r = at next.ChunkLf left line trailer body in
    both (x == 10) (Lessens room 1 r (push_at next.ChunkLf room r x))
    (λ test. rw test (record { misses = tt; fewer = λ _. (refl, omega arith) }))
    (λ test. rw test tt)
byte_lessens next.Trailer room left line trailer body x miss =
    let r = at next.Trailer left line trailer body in
    both (x == 10) (Lessens room 1 r (push_at next.Trailer room r x))
    (λ test. rw test (record { misses = tt; fewer = λ h. true_false h }))
    (λ test. both (x == 13) (Lessens room 1 r (push_at next.Trailer room r x))
    (λ cr. rw (test, cr) (trailed_lessens next.Trailer next.TrailerCr room left line trailer body refl tt (λ fits. omega arith)))
    (λ cr. rw (test, cr) (trailed_lessens next.Trailer next.TrailerLine room left line trailer body refl tt (λ fits. omega arith))))
byte_lessens next.TrailerCr room left line trailer body x miss =
    let r = at next.TrailerCr left line trailer body in
    both (x == 10) (Lessens room 1 r (push_at next.TrailerCr room r x))
    (λ test. rw test (record { misses = tt; fewer = λ h. true_false h }))
    (λ test. rw test (trailed_lessens next.TrailerCr next.TrailerLine room left line trailer body refl tt (λ fits. omega arith)))
byte_lessens next.TrailerLine room left line trailer body x miss =
    let r = at next.TrailerLine left line trailer body in
    both (x == 10) (Lessens room 1 r (push_at next.TrailerLine room r x))
    (λ test. rw test (trailed_lessens next.TrailerLine next.Trailer room left line trailer body refl tt (λ fits. omega arith)))
    (λ test. rw test (trailed_lessens next.TrailerLine next.TrailerLine room left line trailer body refl tt (λ fits. omega arith)))

further : (room n : ℕ) (r s : Reading) (q : Result Reading WireFault) → Leaves room 1 r s → Lessens room n s q → Lessens room (n + 1) r q
further room n r s (Err f) one more = tt
further room n r s (Ok t) one more = record {
  misses = more.misses;
  fewer = λ unended.
      let later = more.fewer unended in
      let sooner = one.fewer later.0 in
      (sooner.0, omega arith);
}

then_lessens : (room n : ℕ) (r : Reading) (p : Result Reading WireFault) (f : Reading → Result Reading WireFault) → Lessens room 1 r p
    → ((s : Reading) → Misses s.next s.left → Lessens room n s (f s)) → Lessens room (n + 1) r (p >>= f)
then_lessens room n r (Err e) f one more = tt
then_lessens room n r (Ok s) f one more = further room n r s (f s) one (more s one.misses)

-- all bytes
reads_lessens : (room : ℕ) (xs : List ℕ) (r : Reading) → Misses r.next r.left → Lessens room (length xs) r (reads_body room r xs)
unfolding reads_body
reads_lessens room [] r miss = record { misses = miss; fewer = λ unended. (unended, omega arith) }
reads_lessens room (x ∷ xs) r miss =
    subst (λ n. Lessens room n r (push_to_body room r x >>= λ s. reads_body room s xs)) (omega arith)
    (then_lessens room (length xs) r (push_to_body room r x) (λ s. reads_body room s xs)
    (byte_lessens r.next room r.left r.line r.trailer r.body x miss) (λ s missed. reads_lessens room xs s missed))

start_misses : (k : BodyKind) → Misses (first_next k) (missing_bytes k)
start_misses kind.None = tt
start_misses (kind.Length n) =
    both (n == 0) (Misses (first_next (kind.Length n)) (missing_bytes (kind.Length n)))
    (λ test. rw test tt)
    (λ test. let some : 0 < n = grind (arith, nat_tests) in rw test some)
start_misses kind.Chunked = tt
start_misses kind.ToEnd = tt

began : (k : BodyKind) → Misses (body_start k).next (body_start k).left
unfolding body_start
began k = start_misses k

reached : (room n : ℕ) (r s : Reading) (q : Result Reading WireFault) → Lessens room n r q → q ≡ Ok s → Leaves room n r s
reached room n r s q less is = let P : Result Reading WireFault → Type 0 = λ p. Lessens room n r p in subst P is less

pub piece_lessens : (k : BodyKind) (b c before after : List ℕ) (h n : ReaderKept) → StandsFor k b h before → StandsFor k (b ++ c) n after
    → length after ≡ length before → is_whole n.next ≡ false → ahead (length before) n + length c ≤ ahead (length before) h
piece_lessens k b c before after h n stood stands same unended =
    let room = length before in
    let once = reached room (length b) (body_start k) (reading_seen h before) (reads_body room (body_start k) b) (reads_lessens room b (body_start k) (began k)) stood.reads in
    let all : reads_body room (body_start k) (b ++ c) ≡ Ok (reading_seen n after) =
    subst (λ m. reads_body m (body_start k) (b ++ c) ≡ Ok (reading_seen n after)) same stands.reads in
    let on : reads_body room (reading_seen h before) c ≡ Ok (reading_seen n after) =
    sym (ap (λ p. p >>= λ s. reads_body room s c) stood.reads) ∙ sym (reads-append room (body_start k) b c) ∙ all in
    let less = reached room (length c) (reading_seen h before) (reading_seen n after) (reads_body room (reading_seen h before) c) (reads_lessens room c (reading_seen h before) once.misses) on in
    let H : ℕ → Type 0 = λ m. ahead room n + length c ≤ ahead room (record h { filled = m }) in
    let N : ℕ → Type 0 = λ m. ahead room (record n { filled = m }) + length c ≤ ahead room (kept_in (reading_seen h before)) in
    let new : ahead room n + length c ≤ ahead room (kept_in (reading_seen h before)) = subst N (length-take-le n.filled after stands.inside) (less.fewer unended).1 in
    subst H (length-take-le h.filled before stood.inside) new
