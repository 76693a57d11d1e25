-- A body by length is the bytes that follow its head.
use Rattle.std.proofs.Common.{◌≡◌, ℕ, ◌-◌, ◌<◌, ◌≤◌, ◌==◌, Bool, true, false, cond, nat_le, List, [], ◌∷◌, length, take, drop, Result, Ok, Err, refl, sym, ap, ◌∙◌, subst, arith}
use Rattle.std.proofs.lemmas.Bool.Decides.{nat_tests}
use Rattle.std.proofs.lemmas.List.{length-take-le, take-append-drop}
use Rattle.http_frames.proofs.Runs.{counted_run, length_counts, reads-append, reads_none, whole_stays}
use Rattle.http_frames.specs.Body.{Reading, body_in, body_start, is_whole, may_end, reads_body, ◌>>=◌}
use Rattle.http_frames.specs.declared.body.BodyKind.{BodyKind}
use Rattle.http_frames.specs.declared.body.BodyKind.TheVariants as kind
use Rattle.http_frames.specs.declared.fault.WireFault.{WireFault}
use Rattle.http_frames.specs.declared.fault.WireFault.TheVariants as faults
use Rattle.http_frames.specs.declared.progress.Next.TheVariants as next
use Rattle.http_fetch.specs.Taking.{HasToldSize}

both : (b : Bool) (P : Type 0) → (b ≡ true → P) → (b ≡ false → P) → P
both true P p q = p refl
both false P p q = q refl

-- a body of n bytes before the first, and after the last
abbrev counting : ℕ → Reading
counting n = record { next = next.Length; left = n; line = []; trailer = 0; body = [] }

abbrev finished : List ℕ → Reading
finished b = record { next = next.Whole; left = 0; line = []; trailer = 0; body = b }

some_start : (n : ℕ) → 0 < n → body_start (kind.Length n) ≡ counting n
unfolding body_start
some_start n some =
    let test : (n == 0) ≡ false = grind (arith, nat_tests) in
    rw test refl

none_start : (n : ℕ) → n ≡ 0 → body_start (kind.Length n) ≡ finished []
unfolding body_start
none_start n none = subst (λ m. body_start (kind.Length m) ≡ finished []) (sym none) refl

no_start : body_start kind.None ≡ finished []
unfolding body_start
no_start = refl

-- ---- reading

few_read : (room n : ℕ) (b : List ℕ) → n ≤ room → length b < n
    → reads_body room (counting n) b ≡ Ok (record { next = next.Length; left = n - length b; line = []; trailer = 0; body = b })
few_read room n [] fits few =
    reads_none room (counting n) ∙ ap (λ m. Ok (record { next = next.Length; left = m; line = []; trailer = 0; body = [] })) (omega arith)
few_read room n (x ∷ xs) fits few =
    let test : nat_le n (length (x ∷ xs)) ≡ false = grind (arith, nat_tests) in
    counted_run next.Length next.Whole length_counts room (counting n) x xs refl (omega arith) (omega arith)
    ∙ ap (λ t. Ok (record { next = cond t next.Whole next.Length; left = n - length (x ∷ xs); line = []; trailer = 0; body = x ∷ xs })) test

all_read : (room n : ℕ) (b : List ℕ) → 0 < n → n ≤ room → length b ≡ n → reads_body room (counting n) b ≡ Ok (finished b)
all_read room n [] some fits all = absurd (omega arith)
all_read room n (x ∷ xs) some fits all =
    let test : nat_le n (length (x ∷ xs)) ≡ true = grind (arith, nat_tests) in
    counted_run next.Length next.Whole length_counts room (counting n) x xs refl (omega arith) (omega arith)
    ∙ ap (λ t. Ok (record { next = cond t next.Whole next.Length; left = n - length (x ∷ xs); line = []; trailer = 0; body = x ∷ xs })) test
    ∙ ap (λ m. Ok (record { next = next.Whole; left = m; line = []; trailer = 0; body = x ∷ xs })) (omega arith)

more_read : (room n : ℕ) (b : List ℕ) → 0 < n → n ≤ room → n ≤ length b → reads_body room (counting n) b ≡ Ok (finished (take n b))
more_read room n b some fits enough =
    ap (reads_body room (counting n)) (sym (take-append-drop n b))
    ∙ reads-append room (counting n) (take n b) (drop n b)
    ∙ ap (λ a. a >>= λ s. reads_body room s (drop n b)) (all_read room n (take n b) some fits (length-take-le n b enough))
    ∙ whole_stays room (finished (take n b)) (drop n b) refl

-- ---- the body

ends : (room : ℕ) (k : BodyKind) (b : List ℕ) (r : Reading) → reads_body room (body_start k) b ≡ Ok r
    → body_in room k b ≡ cond (may_end r.next) (Ok r.body) (Err faults.CutShort)
unfolding body_in
ends room k b r is = ap (λ a. a >>= λ s. cond (may_end s.next) (Ok s.body) (Err faults.CutShort)) is

starts : (room : ℕ) (k : BodyKind) (b : List ℕ) (r : Reading) (a : Result Reading WireFault) → body_start k ≡ r → reads_body room r b ≡ a
    → reads_body room (body_start k) b ≡ a
starts room k b r a is read = ap (λ s. reads_body room s b) is ∙ read

-- as many bytes follow the head as the body has, or more
pub record IsRead (room : ℕ) (k : BodyKind) (n : ℕ) (b : List ℕ) : Type 0 where
  pub reading : Reading
  pub read : reads_body room (body_start k) b ≡ Ok reading
  pub whole : is_whole reading.next ≡ true
  pub body : body_in room k b ≡ Ok (take n b)

is_read : (room : ℕ) (k : BodyKind) (n : ℕ) (b : List ℕ) → reads_body room (body_start k) b ≡ Ok (finished (take n b)) → IsRead room k n b
is_read room k n b read = record {
  reading = finished (take n b);
  read = read;
  whole = refl;
  body = ends room k b (finished (take n b)) read;
}

-- no byte is of the body
none_read : (room : ℕ) (k : BodyKind) (n : ℕ) (b : List ℕ) → n ≡ 0 → body_start k ≡ finished [] → IsRead room k n b
none_read room k n b none start =
    let empty : finished [] ≡ finished (take n b) = ap (λ m. finished (take m b)) (sym none) in
    is_read room k n b (starts room k b (finished []) (Ok (finished [])) start (whole_stays room (finished []) b refl) ∙ ap Ok empty)

pub counted_read : (room : ℕ) (k : BodyKind) (n : ℕ) (b : List ℕ) → HasToldSize k n → n ≤ room → n ≤ length b → IsRead room k n b
counted_read room kind.None n b is fits enough = none_read room kind.None n b is no_start
counted_read room (kind.Length m) n b is fits enough =
    both (n == 0) (IsRead room (kind.Length m) n b)
    (λ test.
    let none : n ≡ 0 = grind (arith, nat_tests) in
    none_read room (kind.Length m) n b none (none_start m (sym is ∙ none)))
    (λ test.
    let some : 0 < n = grind (arith, nat_tests) in
    is_read room (kind.Length m) n b
    (starts room (kind.Length m) b (counting n) (Ok (finished (take n b))) (ap (λ z. body_start (kind.Length z)) (sym is) ∙ some_start n some) (more_read room n b some fits enough)))
counted_read room kind.Chunked n b is fits enough = absurd is
counted_read room kind.ToEnd n b is fits enough = absurd is

-- fewer bytes follow it
pub counted_short : (room : ℕ) (k : BodyKind) (n : ℕ) (b : List ℕ) → HasToldSize k n → n ≤ room → length b < n → body_in room k b ≡ Err faults.CutShort
counted_short room kind.None n b is fits few = absurd (omega arith)
counted_short room (kind.Length m) n b is fits few =
    let some : 0 < n = omega arith in
    let stopped : Reading = record { next = next.Length; left = n - length b; line = []; trailer = 0; body = b } in
    ends room (kind.Length m) b stopped
    (starts room (kind.Length m) b (counting n) (Ok stopped) (ap (λ z. body_start (kind.Length z)) (sym is) ∙ some_start n some) (few_read room n b fits few))
counted_short room kind.Chunked n b is fits few = absurd is
counted_short room kind.ToEnd n b is fits few = absurd is
