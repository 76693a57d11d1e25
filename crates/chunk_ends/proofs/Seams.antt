-- What the bytes that are kept say of the windows across two pieces.
use Rattle.std.proofs.Common.{◌≡◌, ℕ, ◌+◌, ◌-◌, ◌%◌, ◌==◌, ◌||◌, ◌&&◌, ◌<◌, ◌≤◌, List, ◌++◌, length, take, drop, min, max, Bool, true, false, nat_le, refl, sym, ap, subst, ◌∙◌, arith, inl, inr, length-append, length-drop, append_assoc, eq-eqb}
use Rattle.std.proofs.Math.Seq.{drop-append-add, take-append-add}
use Rattle.std.proofs.lemmas.Bool.{cases_lt}
use Rattle.std.proofs.lemmas.Bool.Decides.{nat_tests}
use Rattle.std.proofs.lemmas.Grind.{common_steps}
use Rattle.std.proofs.lemmas.List.{take-append-drop, length-take-le}
use Rattle.chunk_ends.specs.Cuts.{closes, window_of, is_closing, NoneCloses, ClosesFirst}
use Rattle.chunk_ends.specs.Feeding.{EndsFirst}
use Rattle.chunk_ends.specs.Sizes.{Sizes, AreSizes, discriminator_of}
use Rattle.chunk_ends.specs.Window.{window_hash}

-- a chunk of the greatest size ends there
closes_full : (s : Sizes) (chunk : List ℕ) → length chunk ≡ s.greatest → closes s chunk ≡ true
unfolding closes
closes_full s chunk full = rw (eq-eqb (length chunk) s.greatest full) refl

-- a window doesn't see what is further back
pub window_after : (a c : List ℕ) → 48 ≤ length c → window_of (a ++ c) ≡ window_of c
window_after a c long =
    let at : length (a ++ c) - 48 ≡ length a + (length c - 48) = omega (arith, length-append a c) in
    ap (λ (n : ℕ). drop n (a ++ c)) at ∙ drop-append-add a c (length c - 48)

length-window_of : (a : List ℕ) → length (window_of a) ≡ min 48 (length a)
length-window_of a = omega (arith, length-drop (length a - 48) a)

window_short : (a : List ℕ) → length a ≤ 48 → window_of a ≡ a
window_short a short = let at : length a - 48 ≡ 0 = omega arith in ap (λ (n : ℕ). drop n a) at

-- what is before the window
split_window : (a : List ℕ) → take (length a - 48) a ++ window_of a ≡ a
split_window a = take-append-drop (length a - 48) a

-- the last bytes of all are the last of the kept ones and of what follows
pub window_on : (a b : List ℕ) → window_of (window_of a ++ b) ≡ window_of (a ++ b)
window_on a b = elim (cases_lt 48 (length a)) [
  | inr short ↦ ap (λ (x : List ℕ). window_of (x ++ b)) (window_short a short)
  | inl long ↦
      let rest : List ℕ = take (length a - 48) a in
      let whole : rest ++ (window_of a ++ b) ≡ a ++ b = sym (append_assoc rest (window_of a) b) ∙ ap (λ (x : List ℕ). x ++ b) (split_window a) in
      let enough : 48 ≤ length (window_of a ++ b) = omega (arith, length-append (window_of a) b, length-window_of a) in
      sym (window_after rest (window_of a ++ b) enough) ∙ ap window_of whole
]

-- a test sees the window alone
closing_same : (d : ℕ) (a b : List ℕ) → window_of a ≡ window_of b → is_closing d a ≡ is_closing d b
closing_same d a b same = ap (λ (w : List ℕ). window_hash w % d == d - 1) same

both_false : (b : Bool) → (false || (b && false)) ≡ false
both_false true = refl
both_false false = refl

either_true : (b : Bool) → (b || (true && true)) ≡ true
either_true true = refl
either_true false = refl

pub take-take-le : (i j : ℕ) (xs : List ℕ) → i ≤ j → take i (take j xs) ≡ take i xs
take-take-le i j xs le = grind (arith, common_steps)

-- where a chunk that began with `chunk` ends in the piece, by the windows of the seam and of the piece
module _ (s : Sizes) (divisor : ℕ) (chunk piece seam : List ℕ) (kept from to near far : ℕ) (sizes : AreSizes s) (is_divisor : divisor ≡ discriminator_of s.average) (unended : length chunk < s.greatest)
    (is_seam : seam ≡ window_of chunk ++ take 48 piece) (is_kept : kept ≡ min 48 (length chunk))
    (is_from : from ≡ max 1 (s.least - length chunk)) (is_to : to ≡ min (s.greatest - length chunk) (length piece))
    (is_near : near ≡ min to 47) (is_far : far ≡ max from 48) where
  length_to : (p : ℕ) → p ≤ length piece → length (chunk ++ take p piece) ≡ length chunk + p
  length_to p inside = omega (arith, length-append chunk (take p piece), length-take-le p piece inside)

  seam_at : (p : ℕ) → p ≤ 48 → is_closing divisor (take (kept + p) seam) ≡ is_closing divisor (chunk ++ take p piece)
  seam_at p close =
      let at : kept + p ≡ length (window_of chunk) + p = omega (arith, length-window_of chunk) in
      let fewer : take p (take 48 piece) ≡ take p piece = take-take-le p 48 piece close in
      let cut : take (kept + p) seam ≡ window_of chunk ++ take p piece =
      ap (λ (x : List ℕ). take (kept + p) x) is_seam ∙ ap (λ (n : ℕ). take n (window_of chunk ++ take 48 piece)) at
      ∙ take-append-add (window_of chunk) (take 48 piece) p ∙ ap (λ (x : List ℕ). window_of chunk ++ x) fewer in
      closing_same divisor (take (kept + p) seam) (chunk ++ take p piece) (ap window_of cut ∙ window_on chunk (take p piece))

  piece_at : (p : ℕ) → 48 ≤ p → p ≤ length piece → is_closing divisor (take p piece) ≡ is_closing divisor (chunk ++ take p piece)
  piece_at p away inside =
      let long : 48 ≤ length (take p piece) = omega (arith, length-take-le p piece inside) in
      closing_same divisor (take p piece) (chunk ++ take p piece) (sym (window_after chunk (take p piece) long))

  shut : (e : ℕ) → e ≤ to + 1 → NoneCloses divisor seam (kept + from) (kept + min e 48) → NoneCloses divisor piece far e
      → (k : ℕ) → from ≤ k → k < e → is_closing divisor (chunk ++ take k piece) ≡ false
  shut e few in_seam in_piece k low high = elim (cases_lt k 48) [
    | inl close ↦ sym (seam_at k (omega arith)) ∙ in_seam (kept + k) (omega arith) (omega arith)
    | inr away ↦ sym (piece_at k away (omega arith)) ∙ in_piece k (omega arith) high
  ]

  open_early : (k : ℕ) → k ≤ length piece → length chunk + k < s.least → closes s (chunk ++ take k piece) ≡ false
  unfolding closes
  open_early k inside early =
      let size = length_to k inside in
      let some : (length (chunk ++ take k piece) == s.greatest) ≡ false = grind (arith, nat_tests, sizes.rises, sizes.ordered) in
      let short : nat_le s.least (length (chunk ++ take k piece)) ≡ false = grind (arith, nat_tests) in
      rw (some, short) refl

  open_late : (k : ℕ) → k ≤ length piece → length chunk + k < s.greatest → is_closing divisor (chunk ++ take k piece) ≡ false → closes s (chunk ++ take k piece) ≡ false
  unfolding closes
  open_late k inside below none =
      let size = length_to k inside in
      let some : (length (chunk ++ take k piece) == s.greatest) ≡ false = grind (arith, nat_tests) in
      let open_still : is_closing (discriminator_of s.average) (chunk ++ take k piece) ≡ false = subst (λ (d : ℕ). is_closing d (chunk ++ take k piece) ≡ false) is_divisor none in
      rw (some, open_still) (both_false (nat_le s.least (length (chunk ++ take k piece))))

  closed_here : (k : ℕ) → k ≤ length piece → s.least ≤ length chunk + k → is_closing divisor (chunk ++ take k piece) ≡ true → closes s (chunk ++ take k piece) ≡ true
  unfolding closes
  closed_here k inside enough here =
      let size = length_to k inside in
      let long : nat_le s.least (length (chunk ++ take k piece)) ≡ true = grind (arith, nat_tests) in
      let ended : is_closing (discriminator_of s.average) (chunk ++ take k piece) ≡ true = subst (λ (d : ℕ). is_closing d (chunk ++ take k piece) ≡ true) is_divisor here in
      rw (long, ended) (either_true (length (chunk ++ take k piece) == s.greatest))

  unended_before : (e : ℕ) → e ≤ to + 1 → length chunk + e ≤ s.greatest → NoneCloses divisor seam (kept + from) (kept + min e 48) → NoneCloses divisor piece far e
      → (k : ℕ) → 1 ≤ k → k < e → closes s (chunk ++ take k piece) ≡ false
  unended_before e few room in_seam in_piece k some below = elim (cases_lt k from) [
    | inl early ↦ open_early k (omega arith) (omega arith)
    | inr late ↦ open_late k (omega arith) (omega arith) (shut e few in_seam in_piece k late below)
  ]

  -- the four answers
  pub ends_in_seam : (n : ℕ) → ClosesFirst divisor seam (kept + from) (kept + near) n → EndsFirst s chunk piece (n - kept)
  ends_in_seam n here =
      let m : ℕ = n - kept in
      let at : kept + m ≡ n = omega (arith, here.begun) in
      let inside : m ≤ length piece = omega (arith, here.inside) in
      let few : m ≤ to = omega (arith, here.inside) in
      let enough : from ≤ m = omega (arith, here.begun) in
      let none : NoneCloses divisor seam (kept + from) (kept + min m 48) = λ k low high. here.none k low (omega arith) in
      let nothing : NoneCloses divisor piece far m = λ k low high. absurd (omega arith) in
      record {
        some = omega arith;
        inside = inside;
        closed = closed_here m inside (omega arith) (sym (seam_at m (omega arith)) ∙ ap (λ (x : ℕ). is_closing divisor (take x seam)) at ∙ here.closing);
        least = unended_before m (omega arith) (omega arith) none nothing;
      }

  pub ends_in_piece : NoneCloses divisor seam (kept + from) (kept + near + 1) → (n : ℕ) → ClosesFirst divisor piece far to n → EndsFirst s chunk piece n
  ends_in_piece before n here =
      let away : 48 ≤ n = omega (arith, here.begun) in
      let enough : from ≤ n = omega (arith, here.begun) in
      let few : n ≤ to = here.inside in
      let inside : n ≤ length piece = omega arith in
      let none : NoneCloses divisor seam (kept + from) (kept + min n 48) = λ k low high. before k low (omega arith) in
      record {
        some = omega arith;
        inside = inside;
        closed = closed_here n inside (omega arith) (sym (piece_at n away inside) ∙ here.closing);
        least = unended_before n (omega arith) (omega arith) none here.none;
      }

  pub ends_full : NoneCloses divisor seam (kept + from) (kept + near + 1) → NoneCloses divisor piece far (to + 1) → to ≡ s.greatest - length chunk → EndsFirst s chunk piece to
  ends_full before after full =
      let inside : to ≤ length piece = omega arith in
      let none : NoneCloses divisor seam (kept + from) (kept + min to 48) = λ k low high. before k low (omega arith) in
      let nothing : NoneCloses divisor piece far to = λ k low high. after k low (omega arith) in
      record {
        some = omega arith;
        inside = inside;
        closed = closes_full s (chunk ++ take to piece) (length_to to inside ∙ omega arith);
        least = unended_before to (omega arith) (omega arith) none nothing;
      }

  pub ends_nowhere : NoneCloses divisor seam (kept + from) (kept + near + 1) → NoneCloses divisor piece far (to + 1) → to < s.greatest - length chunk
      → (k : ℕ) → 1 ≤ k → k ≤ length piece → closes s (chunk ++ take k piece) ≡ false
  ends_nowhere before after room k some inside =
      let none : NoneCloses divisor seam (kept + from) (kept + min (to + 1) 48) = λ i low high. before i low (omega arith) in
      unended_before (to + 1) (omega arith) (omega arith) none after k some (omega arith)
