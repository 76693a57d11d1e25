-- The ranges of entries after a write to one of them.
use Rattle.std.proofs.Common.{◌≡◌, ℕ, zero, suc, ◌+◌, ◌-◌, ◌≤◌, List, [], ◌∷◌, ◌++◌, length, take, drop, slice_range, refl, sym, ap, ◌∙◌, arith, length-append, length-drop}
use Rattle.std.proofs.lemmas.List.{take-append-le, drop-append-le, take-append-drop, length-take, take_all, append_assoc, drop-drop}
use Rattle.dsy_base.specs.Bytes.{written}

slice_front : (xs ys : List ℕ) (a z : ℕ) → a ≤ z → z ≤ length xs → slice_range (xs ++ ys) a z ≡ slice_range xs a z
slice_front xs ys a z le in_range =
    ap (take (z - a)) (drop-append-le a xs ys (omega arith)) ∙ take-append-le (z - a) (drop a xs) ys (omega (arith, length-drop a xs))

pub slice_below : (t b : List ℕ) (at a z : ℕ) → a ≤ z → z ≤ at → at ≤ length t → slice_range (written t at b) a z ≡ slice_range t a z
slice_below t b at a z le below in_range =
    let front : length (take at t) ≡ at = rw length-take (omega arith) in
    slice_front (take at t) _ a z le (omega arith)
    ∙ sym (slice_front (take at t) (drop at t) a z le (omega arith))
    ∙ ap (λ s. slice_range s a z) (take-append-drop at t)

pub length_written : (t b : List ℕ) (at : ℕ) → at + length b ≤ length t → length (written t at b) ≡ length t
length_written t b at in_range = rw (length-append, length-append, length-drop, length-take) (omega arith)

-- what stands behind a beginning
just_past : (xs ys : List ℕ) (n : ℕ) → length xs ≡ n → drop n (xs ++ ys) ≡ ys
just_past [] ys zero l = refl
just_past [] ys (suc n) l = absurd (omega (arith, l))
just_past (x ∷ xs) ys zero l = absurd (omega (arith, l))
just_past (x ∷ xs) ys (suc n) l = just_past xs ys n (omega (arith, l))

past : (xs ys : List ℕ) (n k : ℕ) → length xs ≡ n → drop (n + k) (xs ++ ys) ≡ drop k ys
past xs ys n k l = sym (drop-drop k n (xs ++ ys)) ∙ ap (drop k) (just_past xs ys n l)

pub slice_at : (t b : List ℕ) (at : ℕ) → at ≤ length t → slice_range (written t at b) at (at + length b) ≡ b
slice_at t b at in_range =
    let front : length (take at t) ≡ at = rw length-take (omega arith) in
    let n : at + length b - at ≡ length b = omega arith in
    rw n (ap (take (length b)) (just_past (take at t) (b ++ drop (at + length b) t) at front) ∙ (take-append-le (length b) b (drop (at + length b) t) (omega arith) ∙ take_all (length b) b (omega arith)))

pub slice_above : (t b : List ℕ) (at a z : ℕ) → at + length b ≤ length t → at + length b ≤ a → slice_range (written t at b) a z ≡ slice_range t a z
slice_above t b at a z in_range above =
    let front : length (take at t ++ b) ≡ at + length b = rw (length-append, length-take) (omega arith) in
    let k : ℕ = a - (at + length b) in
    ap (take (z - a)) (
    ap (drop a) (sym (append_assoc (take at t) b (drop (at + length b) t)))
    ∙ (ap (λ i. drop i ((take at t ++ b) ++ drop (at + length b) t)) (omega arith)
    ∙ (past (take at t ++ b) (drop (at + length b) t) (at + length b) (a - (at + length b)) front
    ∙ (drop-drop (a - (at + length b)) (at + length b) t
    ∙ ap (λ i. drop i t) (omega arith)))))
