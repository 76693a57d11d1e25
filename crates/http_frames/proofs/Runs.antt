-- Reading in pieces, and in runs of body bytes.
use Rattle.std.proofs.Common.{◌≡◌, ℕ, ◌+◌, ◌-◌, ◌<◌, ◌≤◌, Bool, true, false, cond, nat_lt, nat_le, List, [], ◌∷◌, ◌++◌, length, get_or, take, drop, Result, Ok, Err, refl, sym, ap, ◌∙◌, arith, append_assoc}
use Rattle.std.specs.Prelude.{IfOk}
use Rattle.std.proofs.lemmas.Bool.Decides.{nat_tests}
use Rattle.std.proofs.lemmas.List.{append-nil, length-append, length-take-le, take-append-drop, drop_all, drop-drop}
use Rattle.http_frames.specs.declared.fault.WireFault.{WireFault}
use Rattle.http_frames.specs.declared.fault.WireFault.TheVariants as faults
use Rattle.http_frames.specs.declared.progress.Next.{Next}
use Rattle.http_frames.specs.declared.progress.Next.TheVariants as next
use Rattle.http_frames.specs.Body.{Reading, push_to_body, push_at, counted, appended, reads_body, ◌>>=◌}
use Rattle.http_frames.specs.Standing.{StepsOverFront, TakesCounted}

bind_assoc : (x : Result Reading WireFault) (f g : Reading → Result Reading WireFault) → ((x >>= f) >>= g) ≡ (x >>= λ s. f s >>= g)
bind_assoc (Ok s) f g = refl
bind_assoc (Err e) f g = refl

bind_same : (x : Result Reading WireFault) (f g : Reading → Result Reading WireFault) → ((s : Reading) → f s ≡ g s) → (x >>= f) ≡ (x >>= g)
bind_same (Ok s) f g h = h s
bind_same (Err e) f g h = refl

-- a piece, and then another
pub reads-append : (room : ℕ) (r : Reading) (xs ys : List ℕ) → reads_body room r (xs ++ ys) ≡ (reads_body room r xs >>= λ s. reads_body room s ys)
unfolding reads_body
reads-append room r [] ys = refl
reads-append room r (x ∷ xs) ys =
    bind_same (push_to_body room r x) (λ s. reads_body room s (xs ++ ys)) (λ s. reads_body room s xs >>= λ t. reads_body room t ys) (λ s. reads-append room s xs ys) ∙ sym (bind_assoc (push_to_body room r x) (λ s. reads_body room s xs) (λ s. reads_body room s ys))

pub reads_one : (room : ℕ) (r : Reading) (x : ℕ) (xs : List ℕ) → reads_body room r (x ∷ xs) ≡ (push_to_body room r x >>= λ s. reads_body room s xs)
unfolding reads_body
reads_one room r x xs = refl

pub reads_none : (room : ℕ) (r : Reading) → reads_body room r [] ≡ Ok r
unfolding reads_body
reads_none room r = refl

first_read : (room : ℕ) (r : Reading) (x : ℕ) (xs : List ℕ) (a : Result Reading WireFault) → push_to_body room r x ≡ a → reads_body room r (x ∷ xs) ≡ (a >>= λ s. reads_body room s xs)
first_read room r x xs a is = reads_one room r x xs ∙ ap (λ a. a >>= λ s. reads_body room s xs) is

-- ---- a body that is whole

whole_push : (room : ℕ) (r : Reading) (x : ℕ) → r.next ≡ next.Whole → push_to_body room r x ≡ Ok r
unfolding push_at
whole_push room r x is = ap (λ n. push_at n room r x) is

pub whole_stays : (room : ℕ) (r : Reading) (xs : List ℕ) → r.next ≡ next.Whole → reads_body room r xs ≡ Ok r
whole_stays room r [] is = reads_none room r
whole_stays room r (x ∷ xs) is = first_read room r x xs _ (whole_push room r x is) ∙ whole_stays room r xs is

-- ---- a body up to the end

appended_push : (room : ℕ) (r : Reading) (x : ℕ) → r.next ≡ next.ToEnd → push_to_body room r x ≡ appended room r x
unfolding push_at
appended_push room r x is = ap (λ n. push_at n room r x) is

appended_fits : (room : ℕ) (r : Reading) (x : ℕ) → length r.body < room → appended room r x ≡ Ok (record r { body = r.body ++ x ∷ [] })
unfolding appended
appended_fits room r x lt =
    let test : nat_le room (length r.body) ≡ false = grind (arith, nat_tests) in
    rw test refl

appended_fails : (room : ℕ) (r : Reading) (x : ℕ) → room ≤ length r.body → appended room r x ≡ Err faults.BodyTooLong
unfolding appended
appended_fails room r x le =
    let test : nat_le room (length r.body) ≡ true = grind (arith, nat_tests) in
    rw test refl

pub all_fit : (room : ℕ) (r : Reading) (xs : List ℕ) → r.next ≡ next.ToEnd → length r.body + length xs ≤ room → reads_body room r xs ≡ Ok (record r { body = r.body ++ xs })
all_fit room r [] is fits = reads_none room r ∙ ap (λ b. Ok (record r { body = b })) (sym (append-nil r.body))
all_fit room r (x ∷ xs) is fits =
    let more = record r { body = r.body ++ x ∷ [] } in
    first_read room r x xs _ (appended_push room r x is ∙ appended_fits room r x (omega arith))
    ∙ all_fit room more xs is (omega (arith, length-append r.body (x ∷ [])))
    ∙ ap (λ b. Ok (record r { body = b })) (append_assoc r.body (x ∷ []) xs)

both : (b : Bool) (P : Type 0) → (b ≡ true → P) → (b ≡ false → P) → P
both true P p q = p refl
both false P p q = q refl

pub all_fail : (room : ℕ) (r : Reading) (xs : List ℕ) → r.next ≡ next.ToEnd → length r.body ≤ room → room < length r.body + length xs → reads_body room r xs ≡ Err faults.BodyTooLong
all_fail room r [] is fits more = absurd (omega arith)
all_fail room r (x ∷ xs) is fits more =
    both (nat_le room (length r.body)) (reads_body room r (x ∷ xs) ≡ Err faults.BodyTooLong)
    (λ test. first_read room r x xs _ (appended_push room r x is ∙ appended_fails room r x (grind (arith, nat_tests))))
    (λ test.
    let lt : length r.body < room = grind (arith, nat_tests) in
    let longer = record r { body = r.body ++ x ∷ [] } in
    first_read room r x xs _ (appended_push room r x is ∙ appended_fits room r x lt)
    ∙ all_fail room longer xs is (omega (arith, length-append r.body (x ∷ []))) (omega (arith, length-append r.body (x ∷ []))))

-- ---- bytes that are counted

abbrev Counts : Next → Next → Type 0
Counts this after = (room : ℕ) (r : Reading) (x : ℕ) → r.next ≡ this → push_to_body room r x ≡ counted this after room r x

pub length_counts : Counts next.Length next.Whole
unfolding push_at
length_counts room r x is = ap (λ n. push_at n room r x) is

pub chunk_counts : Counts next.Chunk next.ChunkCr
unfolding push_at
chunk_counts room r x is = ap (λ n. push_at n room r x) is

counted_fits : (this after : Next) (room : ℕ) (r : Reading) (x : ℕ) → length r.body + r.left ≤ room → counted this after room r x ≡ Ok (record r { next = cond (nat_le r.left 1) after this; left = r.left - 1; body = r.body ++ x ∷ [] })
unfolding counted
counted_fits this after room r x fits =
    let test : nat_lt room (length r.body + r.left) ≡ false = grind (arith, nat_tests) in
    rw test refl

counted_fails : (this after : Next) (room : ℕ) (r : Reading) (x : ℕ) → room < length r.body + r.left → counted this after room r x ≡ Err faults.BodyTooLong
unfolding counted
counted_fails this after room r x more =
    let test : nat_lt room (length r.body + r.left) ≡ true = grind (arith, nat_tests) in
    rw test refl

one_less : (l n : ℕ) → 0 < l → nat_le (l - 1) n ≡ nat_le l (n + 1)
one_less l n some = grind (arith, nat_tests)

pub counted_run : (this after : Next) → Counts this after → (room : ℕ) (r : Reading) (x : ℕ) (xs : List ℕ) → r.next ≡ this → length (x ∷ xs) ≤ r.left → length r.body + r.left ≤ room
    → reads_body room r (x ∷ xs) ≡ Ok (record r { next = cond (nat_le r.left (length (x ∷ xs))) after this; left = r.left - length (x ∷ xs); body = r.body ++ x ∷ xs })
counted_run this after counts room r x [] is few fits =
    first_read room r x [] _ (counts room r x is ∙ counted_fits this after room r x fits) ∙ reads_none room _
counted_run this after counts room r x (y ∷ ys) is few fits =
    let some = r.body ++ x ∷ [] in
    let test : nat_le r.left 1 ≡ false = grind (arith, nat_tests) in
    let s = record r { next = this; left = r.left - 1; body = some } in
    let one : push_to_body room r x ≡ Ok s = counts room r x is ∙ counted_fits this after room r x fits ∙ ap (λ b. Ok (record r { next = cond b after this; left = r.left - 1; body = some })) test in
    let others = counted_run this after counts room s y ys refl (omega arith) (omega (arith, length-append r.body (x ∷ []))) in
    let same : nat_le (r.left - 1) (length (y ∷ ys)) ≡ nat_le r.left (length (x ∷ y ∷ ys)) = grind (arith, nat_tests) in
    let fewer : (r.left - 1) - length (y ∷ ys) ≡ r.left - length (x ∷ y ∷ ys) = omega arith in
    first_read room r x (y ∷ ys) _ one ∙ others
    ∙ ap (λ b. Ok (record r { next = cond b after this; left = (r.left - 1) - length (y ∷ ys); body = some ++ y ∷ ys })) same
    ∙ ap (λ n. Ok (record r { next = cond (nat_le r.left (length (x ∷ y ∷ ys))) after this; left = n; body = some ++ y ∷ ys })) fewer
    ∙ ap (λ b. Ok (record r { next = cond (nat_le r.left (length (x ∷ y ∷ ys))) after this; left = r.left - length (x ∷ y ∷ ys); body = b })) (append_assoc r.body (x ∷ []) (y ∷ ys))

counted_front : (this after : Next) → Counts this after → (room : ℕ) (r : Reading) (xs : List ℕ) → r.next ≡ this → 0 < length xs → length xs ≤ r.left → length r.body + r.left ≤ room
    → reads_body room r xs ≡ Ok (record r { next = cond (nat_le r.left (length xs)) after r.next; left = r.left - length xs; body = r.body ++ xs })
counted_front this after counts room r [] is some few fits = absurd (omega arith)
counted_front this after counts room r (x ∷ xs) is some few fits =
    counted_run this after counts room r x xs is few fits
    ∙ ap (λ t. Ok (record r { next = cond (nat_le r.left (length (x ∷ xs))) after t; left = r.left - length (x ∷ xs); body = r.body ++ x ∷ xs })) (sym is)

counted_stops : (this after : Next) → Counts this after → (room : ℕ) (r : Reading) (xs : List ℕ) → r.next ≡ this → 0 < length xs → room < length r.body + r.left → reads_body room r xs ≡ Err faults.BodyTooLong
counted_stops this after counts room r [] is some more = absurd (omega arith)
counted_stops this after counts room r (x ∷ xs) is some more =
    first_read room r x xs _ (counts room r x is ∙ counted_fails this after room r x more)

pub counted_steps : (this after : Next) → Counts this after → (room : ℕ) (r s : Reading) (xs : List ℕ) (a : Result ℕ WireFault) → r.next ≡ this → 0 < length xs → IfOk a (λ n. (0 < n) × (n ≤ length xs)) → TakesCounted room after r xs a s → StepsOverFront room r xs a s
counted_steps this after counts room r s xs (Err f) is some size takes =
    counted_stops this after counts room r xs is some takes.0 ∙ ap Err (sym takes.1)
counted_steps this after counts room r s xs (Ok n) is some size takes =
    let len : length (take n xs) ≡ n = length-take-le n xs size.1 in
    let run = counted_front this after counts room r (take n xs) is (omega (arith, len, size.0)) (omega (arith, len, takes.0)) takes.1 in
    run ∙ ap (λ m. Ok (record r { next = cond (nat_le r.left m) after r.next; left = r.left - m; body = r.body ++ take n xs })) len ∙ ap Ok (sym takes.2)

-- ---- one byte

pub one_read : (room : ℕ) (r s : Reading) (xs : List ℕ) → 0 < length xs → push_to_body room r (get_or xs 0 0) ≡ Ok s → reads_body room r (take 1 xs) ≡ Ok s
one_read room r s [] some is = absurd (omega arith)
one_read room r s (x ∷ xs) some is = first_read room r x [] _ is ∙ reads_none room s

pub one_fails : (room : ℕ) (r : Reading) (f : WireFault) (xs : List ℕ) → 0 < length xs → push_to_body room r (get_or xs 0 0) ≡ Err f → reads_body room r xs ≡ Err f
one_fails room r f [] some is = absurd (omega arith)
one_fails room r f (x ∷ xs) some is = first_read room r x xs _ is

-- ---- the whole piece

pub reading_goes_on : (room : ℕ) (r s t : Reading) (xs : List ℕ) (i n : ℕ) → reads_body room r xs ≡ reads_body room s (drop i xs) → reads_body room s (take n (drop i xs)) ≡ Ok t → reads_body room r xs ≡ reads_body room t (drop (i + n) xs)
reading_goes_on room r s t xs i n so_far step =
    so_far ∙ ap (reads_body room s) (sym (take-append-drop n (drop i xs))) ∙ reads-append room s (take n (drop i xs)) (drop n (drop i xs)) ∙ ap (λ a. a >>= λ u. reads_body room u (drop n (drop i xs))) step
    ∙ ap (reads_body room t) (drop-drop n i xs)

pub reading_fails : (room : ℕ) (r s : Reading) (xs : List ℕ) (i : ℕ) (f : WireFault) → reads_body room r xs ≡ reads_body room s (drop i xs) → reads_body room s (drop i xs) ≡ Err f → reads_body room r xs ≡ Err f
reading_fails room r s xs i f so_far step = so_far ∙ step

pub reading_ends : (room : ℕ) (r s : Reading) (xs : List ℕ) (i : ℕ) → length xs ≤ i → reads_body room r xs ≡ reads_body room s (drop i xs) → reads_body room r xs ≡ Ok s
reading_ends room r s xs i le so_far = so_far ∙ ap (reads_body room s) (drop_all i xs le) ∙ reads_none room s
