-- A body is read alike with any room that it fits.
use Rattle.std.proofs.Common.{◌≡◌, ℕ, ◌+◌, ◌-◌, ◌<◌, ◌≤◌, ◌==◌, Bool, true, false, nat_lt, nat_le, if◌then◌else◌, List, [], ◌∷◌, ◌++◌, length, Option, Some, None, Result, Ok, Err, refl, ap, ◌∙◌, subst, arith}
use Rattle.std.proofs.lemmas.Bool.Decides.{nat_tests}
use Rattle.std.proofs.lemmas.List.{length-append}
use Rattle.http_frames.specs.Body.{Reading, appended, counted, expected, in_line, push_to_body, push_at, reads_body, sized, body_in, body_start, trailed, may_end, ◌>>=◌}
use Rattle.http_frames.specs.SizeLine.{size_in}
use Rattle.http_frames.specs.declared.body.BodyKind.{BodyKind}
use Rattle.http_frames.specs.declared.body.BodyKind.TheVariants as kind
use Rattle.http_frames.specs.declared.fault.WireFault.{WireFault}
use Rattle.http_frames.specs.declared.fault.WireFault.TheVariants as faults
use Rattle.http_frames.specs.declared.progress.Next.{Next}
use Rattle.http_frames.specs.declared.progress.Next.TheVariants as next
use Rattle.http_fetch.specs.Fetching.{tells_more}

-- the bytes that are missing of the length or of the open chunk
abbrev awaited : Next → ℕ → ℕ
awaited next.Length n = n
awaited next.Chunk n = n
awaited _ n = 0

-- how many bytes the body has at least, where it is read on
abbrev weight : Reading → ℕ
weight r = length r.body + awaited r.next r.left

abbrev at : Next → ℕ → List ℕ → ℕ → List ℕ → Reading
at n left line trailer body = record { next = n; left = left; line = line; trailer = trailer; body = body }

-- what r is read to with some room is no lighter, and it is read to it with each room that this fits
abbrev Narrows : Reading → Result Reading WireFault → (ℕ → Result Reading WireFault) → Type 0
Narrows r (Ok s) f = (weight r ≤ weight s) × ((room : ℕ) → weight s ≤ room → f room ≡ Ok s)
Narrows r (Err e) f = Unit {0}

both : (b : Bool) (P : Type 0) → (b ≡ true → P) → (b ≡ false → P) → P
both true P p q = p refl
both false P p q = q refl

-- ---- one byte

counted_narrows : (this after : Next) (wide left : ℕ) (line : List ℕ) (trailer : ℕ) (body : List ℕ) (x : ℕ)
    → ((m : ℕ) → awaited this m ≡ m) → ((m : ℕ) → awaited after m ≡ 0)
    → Narrows (at this left line trailer body) (counted this after wide (at this left line trailer body) x) (λ room. counted this after room (at this left line trailer body) x)
unfolding counted
counted_narrows this after wide left line trailer body x opened closed =
    let r = at this left line trailer body in
    let more : length (body ++ x ∷ []) ≡ length body + 1 = length-append body (x ∷ []) in
    both (nat_lt wide (length body + left)) (Narrows r (counted this after wide r x) (λ room. counted this after room r x))
    (λ test. rw test tt)
    (λ test. both (nat_le left 1) (Narrows r (counted this after wide r x) (λ room. counted this after room r x))
    (λ one.
    let few : left ≤ 1 = grind (arith, nat_tests) in
    rw (test, one) (
      omega (arith, more, opened left, closed (left - 1)),
      λ room fits.
          let enough : nat_lt room (length body + left) ≡ false = let le : length body + left ≤ room = omega (arith, more, few, fits, closed (left - 1)) in grind (arith, nat_tests) in
          rw enough refl,
    ))
    (λ two.
    let many : 1 < left = grind (arith, nat_tests) in
    rw (test, two) (
      omega (arith, more, opened left, opened (left - 1)),
      λ room fits.
          let enough : nat_lt room (length body + left) ≡ false = let le : length body + left ≤ room = omega (arith, more, many, fits, opened (left - 1)) in grind (arith, nat_tests) in
          rw enough refl,
    )))

trailed_narrows : (this after : Next) (left : ℕ) (line : List ℕ) (trailer : ℕ) (body : List ℕ) → awaited this left ≡ 0
    → Narrows (at this left line trailer body) (trailed after (at this left line trailer body)) (λ room. trailed after (at this left line trailer body))
unfolding trailed
trailed_narrows this after left line trailer body closed =
    let r = at this left line trailer body in
    both (nat_le 16384 (trailer + 1)) (Narrows r (trailed after r) (λ room. trailed after r))
    (λ test. rw test tt)
    (λ test. rw test (omega (arith, closed), λ room fits. refl))

sized_narrows : (wide left : ℕ) (line : List ℕ) (trailer : ℕ) (body : List ℕ) (o : Option ℕ)
    → Narrows (at next.SizeLine left line trailer body) (sized wide (at next.SizeLine left line trailer body) o) (λ room. sized room (at next.SizeLine left line trailer body) o)
unfolding sized
sized_narrows wide left line trailer body None = tt
sized_narrows wide left line trailer body (Some n) =
    let r = at next.SizeLine left line trailer body in
    both (n == 0) (Narrows r (sized wide r (Some n)) (λ room. sized room r (Some n)))
    (λ test. rw test (omega arith, λ room fits. refl))
    (λ test. both (nat_lt wide (length body + n)) (Narrows r (sized wide r (Some n)) (λ room. sized room r (Some n)))
    (λ more. rw (test, more) tt)
    (λ less. rw (test, less) (
      omega arith,
      λ room fits.
          let enough : nat_lt room (length body + n) ≡ false = grind (arith, nat_tests) in
          rw enough refl,
    )))

byte_narrows : (n : Next) (wide left : ℕ) (line : List ℕ) (trailer : ℕ) (body : List ℕ) (x : ℕ)
    → Narrows (at n left line trailer body) (push_at n wide (at n left line trailer body) x) (λ room. push_at n room (at n left line trailer body) x)
unfolding push_at appended in_line expected
byte_narrows next.Whole wide left line trailer body x = (omega arith, λ room fits. refl)
byte_narrows next.ToEnd wide left line trailer body x =
    let r = at next.ToEnd left line trailer body in
    let more : length (body ++ x ∷ []) ≡ length body + 1 = length-append body (x ∷ []) in
    both (nat_le wide (length body)) (Narrows r (push_at next.ToEnd wide r x) (λ room. push_at next.ToEnd room r x))
    (λ test. rw test tt)
    (λ test. rw test (
      omega (arith, more),
      λ room fits.
          let enough : nat_le room (length body) ≡ false = let lt : length body < room = omega (arith, more, fits) in grind (arith, nat_tests) in
          rw enough refl,
    ))
byte_narrows next.Length wide left line trailer body x =
    counted_narrows next.Length next.Whole wide left line trailer body x (λ m. refl) (λ m. refl)
byte_narrows next.SizeLine wide left line trailer body x =
    let r = at next.SizeLine left line trailer body in
    both (x == 10) (Narrows r (push_at next.SizeLine wide r x) (λ room. push_at next.SizeLine room r x))
    (λ test. rw test (sized_narrows wide left line trailer body (size_in (line ++ x ∷ []))))
    (λ test. both (nat_le 256 (length line + 1)) (Narrows r (push_at next.SizeLine wide r x) (λ room. push_at next.SizeLine room r x))
    (λ long. rw (test, long) tt)
    (λ short. rw (test, short) (omega arith, λ room fits. refl)))
byte_narrows next.Chunk wide left line trailer body x =
    counted_narrows next.Chunk next.ChunkCr wide left line trailer body x (λ m. refl) (λ m. refl)
byte_narrows next.ChunkCr wide left line trailer body x =
    let r = at next.ChunkCr left line trailer body in
    both (x == 13) (Narrows r (push_at next.ChunkCr wide r x) (λ room. push_at next.ChunkCr room r x))
    (λ test. rw test (omega arith, λ room fits. refl))
    (λ test. rw test tt)
byte_narrows next.ChunkLf wide left line trailer body x =
    let r = at next.ChunkLf left line trailer body in
    both (x == 10) (Narrows r (push_at next.ChunkLf wide r x) (λ room. push_at next.ChunkLf room r x))
    (λ test. rw test (omega arith, λ room fits. refl))
    (λ test. rw test tt)
byte_narrows next.Trailer wide left line trailer body x =
    let r = at next.Trailer left line trailer body in
    both (x == 10) (Narrows r (push_at next.Trailer wide r x) (λ room. push_at next.Trailer room r x))
    (λ test. rw test (omega arith, λ room fits. refl))
    (λ test. both (x == 13) (Narrows r (push_at next.Trailer wide r x) (λ room. push_at next.Trailer room r x))
    (λ cr. rw (test, cr) (trailed_narrows next.Trailer next.TrailerCr left line trailer body refl))
    (λ cr. rw (test, cr) (trailed_narrows next.Trailer next.TrailerLine left line trailer body refl)))
byte_narrows next.TrailerCr wide left line trailer body x =
    let r = at next.TrailerCr left line trailer body in
    both (x == 10) (Narrows r (push_at next.TrailerCr wide r x) (λ room. push_at next.TrailerCr room r x))
    (λ test. rw test (omega arith, λ room fits. refl))
    (λ test. rw test (trailed_narrows next.TrailerCr next.TrailerLine left line trailer body refl))
byte_narrows next.TrailerLine wide left line trailer body x =
    let r = at next.TrailerLine left line trailer body in
    both (x == 10) (Narrows r (push_at next.TrailerLine wide r x) (λ room. push_at next.TrailerLine room r x))
    (λ test. rw test (trailed_narrows next.TrailerLine next.Trailer left line trailer body refl))
    (λ test. rw test (trailed_narrows next.TrailerLine next.TrailerLine left line trailer body refl))

-- ---- all bytes

further : (r s : Reading) (q : Result Reading WireFault) (f : ℕ → Result Reading WireFault) (g : ℕ → Reading → Result Reading WireFault) → weight r ≤ weight s
    → ((room : ℕ) → weight s ≤ room → f room ≡ Ok s) → Narrows s q (λ room. g room s) → Narrows r q (λ room. f room >>= g room)
further r s (Err e) f g heavier same on = tt
further r s (Ok u) f g heavier same on =
    (omega (arith, heavier, on.0), λ room fits. ap (λ p. p >>= g room) (same room (omega (arith, on.0, fits))) ∙ on.1 room fits)

then_narrows : (r : Reading) (p : Result Reading WireFault) (q : Reading → Result Reading WireFault) (f : ℕ → Result Reading WireFault) (g : ℕ → Reading → Result Reading WireFault)
    → Narrows r p f → ((s : Reading) → Narrows s (q s) (λ room. g room s)) → Narrows r (p >>= q) (λ room. f room >>= g room)
then_narrows r (Err e) q f g one on = tt
then_narrows r (Ok s) q f g one on = further r s (q s) f g one.0 one.1 (on s)

reads_narrows : (wide : ℕ) (xs : List ℕ) (r : Reading) → Narrows r (reads_body wide r xs) (λ room. reads_body room r xs)
unfolding reads_body
reads_narrows wide [] r = (omega arith, λ room fits. refl)
reads_narrows wide (x ∷ xs) r =
    then_narrows r (push_to_body wide r x) (λ s. reads_body wide s xs) (λ room. push_to_body room r x) (λ room s. reads_body room s xs)
    (byte_narrows r.next wide r.left r.line r.trailer r.body x) (λ s. reads_narrows wide xs s)

-- ---- a whole body

ended_weight : (n : Next) (left : ℕ) → may_end n ≡ true → awaited n left ≡ 0
ended_weight next.Whole left is = refl
ended_weight next.ToEnd left is = refl
ended_weight next.Length left is = absurd (cc (is))
ended_weight next.SizeLine left is = refl
ended_weight next.Chunk left is = absurd (cc (is))
ended_weight next.ChunkCr left is = refl
ended_weight next.ChunkLf left is = refl
ended_weight next.Trailer left is = refl
ended_weight next.TrailerCr left is = refl
ended_weight next.TrailerLine left is = refl

abbrev ends_with : Reading → Result (List ℕ) WireFault
ends_with r = if may_end r.next then Ok r.body else Err faults.CutShort

-- what was read, where it is a body
record Ends (p : Result Reading WireFault) (b : List ℕ) : Type 0 where
  reading : Reading
  read : p ≡ Ok reading
  over : may_end reading.next ≡ true
  body : reading.body ≡ b

abbrev whole : List ℕ → Result (List ℕ) WireFault
whole b = Ok b

same_body : (a b : List ℕ) → whole a ≡ whole b → a ≡ b
same_body a b same = cc (same)

ends_in : (r : Reading) (b : List ℕ) → ends_with r ≡ Ok b → Ends (Ok r) b
ends_in r b is =
    both (may_end r.next) (Ends (Ok r) b)
    (λ test. let P : Bool → Type 0 = λ t. (if t then Ok r.body else Err faults.CutShort) ≡ Ok b in
    record { reading = r; read = refl; over = test; body = same_body r.body b (subst P test is) })
    (λ test. let P : Bool → Type 0 = λ t. (if t then Ok r.body else Err faults.CutShort) ≡ Ok b in absurd (cc (subst P test is)))

ends : (p : Result Reading WireFault) (b : List ℕ) → (p >>= ends_with) ≡ Ok b → Ends p b
ends (Ok r) b is = ends_in r b is
ends (Err e) b is = absurd (cc (is))

body_ends : (wide : ℕ) (k : BodyKind) (bytes b : List ℕ) → body_in wide k bytes ≡ Ok b → Ends (reads_body wide (body_start k) bytes) b
unfolding body_in
body_ends wide k bytes b is = ends (reads_body wide (body_start k) bytes) b is

body_of_ends : (room : ℕ) (k : BodyKind) (bytes : List ℕ) (r : Reading) → reads_body room (body_start k) bytes ≡ Ok r → may_end r.next ≡ true → body_in room k bytes ≡ Ok r.body
unfolding body_in
body_of_ends room k bytes r is over = rw (is, over) refl

reached : (r s : Reading) (p : Result Reading WireFault) (f : ℕ → Result Reading WireFault) → Narrows r p f → p ≡ Ok s → (weight r ≤ weight s) × ((room : ℕ) → weight s ≤ room → f room ≡ Ok s)
reached r s p f narrow is = let P : Result Reading WireFault → Type 0 = λ q. Narrows r q f in subst P is narrow

-- a body that is read with any room is read with each that it fits, and isn't shorter than it is told to be
pub fits_room : (wide room : ℕ) (k : BodyKind) (bytes b : List ℕ) → body_in wide k bytes ≡ Ok b → length b ≤ room
    → (body_in room k bytes ≡ Ok b) × (weight (body_start k) ≤ length b)
fits_room wide room k bytes b is fits =
    let e = body_ends wide k bytes b is in
    let go = reached (body_start k) e.reading (reads_body wide (body_start k) bytes) (λ m. reads_body m (body_start k) bytes) (reads_narrows wide bytes (body_start k)) e.read in
    let size : weight e.reading ≡ length b = omega (arith, ap length e.body, ended_weight e.reading.next e.reading.left e.over) in
    (body_of_ends room k bytes e.reading (go.1 room (omega (arith, size, fits))) e.over ∙ ap (λ x. Ok x) e.body, omega (arith, size, go.0))

start_weight : (n : ℕ) → weight (body_start (kind.Length n)) ≡ n
unfolding body_start
start_weight n =
    both (n == 0) (weight (body_start (kind.Length n)) ≡ n)
    (λ test. let none : n ≡ 0 = grind (arith, nat_tests) in rw test (omega (arith, none)))
    (λ test. rw test (omega arith))

-- so its Content-Length isn't above the room
pub told_fits : (wide room : ℕ) (k : BodyKind) (bytes b : List ℕ) → body_in wide k bytes ≡ Ok b → length b ≤ room → tells_more room k ≡ false
told_fits wide room kind.None bytes b is fits = refl
told_fits wide room (kind.Length n) bytes b is fits =
    let le : n ≤ room = omega (arith, start_weight n, (fits_room wide room (kind.Length n) bytes b is fits).1, fits) in
    grind (arith, nat_tests)
told_fits wide room kind.Chunked bytes b is fits = refl
told_fits wide room kind.ToEnd bytes b is fits = refl
