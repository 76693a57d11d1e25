-- A rotation to the left by k of a word of 32 bits, as one sum, goes through xor, and one more turn is one more place.
use Rattle.std.proofs.Common.{◌≡◌, ℕ, ◌+◌, ◌-◌, ◌*◌, ◌/◌, ◌%◌, ◌^◌, ◌<◌, bit_or, bit_xor, refl, sym, ap, subst, ◌∙◌, arith, add-zero, add_comm, mod-lt, pow_pos, pow-add, shr-shr, inl, inr}
use Rattle.std.proofs.lemmas.Bool.{cases_lt}
use Rattle.std.proofs.lemmas.Nat.{mod-pow-add, mod_low, or_lt, or_shifted, shl-shr, shr_below, shr_high, shr_le, xor_block, xor_lt, xor_mod, xor_shr, mul-add-lt}
use Rattle.std.specs.Int.{w32, rotate_left}
use lib.Bits.{or_self}

-- the low j bits of n above its other bits, where those are k
abbrev left : ℕ → ℕ → ℕ → ℕ
left n j k = n % 2 ^ j * 2 ^ k + n / 2 ^ j

high_lt : (n j k : ℕ) → k + j ≡ 32 → n < 2 ^ 32 → n / 2 ^ j < 2 ^ k
high_lt n j k e fits = shr_below n k j (subst (λ (i : ℕ). n < 2 ^ i) (sym e) fits)

rotation : (n j k : ℕ) → k + j ≡ 32 → n < 2 ^ 32 → bit_or (n * 2 ^ k % 2 ^ 32) (n / 2 ^ j) ≡ left n j k
rotation n j k e fits =
    let clear : n * 2 ^ k % 2 ^ k ≡ 0 = ap (λ (x : ℕ). x % 2 ^ k) (sym (add-zero _)) ∙ mod_low n k 0 (pow_pos k) in
    let e' : 32 ≡ j + k = omega arith in
    let low : n * 2 ^ k % 2 ^ 32 ≡ n % 2 ^ j * 2 ^ k =
    ap (λ (i : ℕ). n * 2 ^ k % 2 ^ i) e' ∙ mod-pow-add (n * 2 ^ k) j k ∙ rw (shl-shr n k, clear) (add-zero _) in
    ap (λ (x : ℕ). bit_or x (n / 2 ^ j)) low ∙ or_shifted (n % 2 ^ j) k (n / 2 ^ j) (high_lt n j k e fits)

left-xor : (a b j k : ℕ) → k + j ≡ 32 → a < 2 ^ 32 → b < 2 ^ 32 → left (bit_xor a b) j k ≡ bit_xor (left a j k) (left b j k)
left-xor a b j k e fa fb =
    rw (xor_mod a b j, xor_shr a b j)
    (sym (xor_block k (a % 2 ^ j) (b % 2 ^ j) (a / 2 ^ j) (b / 2 ^ j) (high_lt a j k e fa) (high_lt b j k e fb)))

left-left : (n m k : ℕ) → k + m ≡ 31 → n < 2 ^ 32 → left (left n (1 + m) k) 31 1 ≡ left n m (k + 1)
left-left n m k e fits =
    let c : ℕ = n % 2 ^ m in
    let q : ℕ = n / 2 ^ m in
    let b : ℕ = q % 2 in
    let a : ℕ = n / 2 ^ (1 + m) in
    let ea : a ≡ q / 2 = ap (λ (i : ℕ). n / 2 ^ i) (add_comm 1 m) ∙ sym (shr-shr n m 1) in
    let fa : a < 2 ^ k = high_lt n (1 + m) k (omega arith) fits in
    let fc : c < 2 ^ m = mod-lt _ (pow_pos m) in
    let turned : m + k ≡ 31 = omega arith in
    let both : 2 ^ m * 2 ^ k ≡ 2 ^ 31 = sym (pow-add 2 m k) ∙ ap (λ (i : ℕ). 2 ^ i) turned in
    let low : c * 2 ^ k + a < 2 ^ 31 = subst (λ (x : ℕ). c * 2 ^ k + a < x) (omega (arith, both)) (mul-add-lt c (2 ^ k) a (2 ^ m) fc fa) in
    let inner : left n (1 + m) k ≡ b * 2 ^ 31 + (c * 2 ^ k + a) = rw (mod-pow-add n 1 m) (omega (arith, ap (λ (x : ℕ). b * x) both)) in
    let more : 2 ^ (k + 1) ≡ 2 ^ k * 2 = pow-add 2 k 1 in
    rw (inner, mod_low b 31 (c * 2 ^ k + a) low, shr_high b 31 (c * 2 ^ k + a) low, more) (omega (arith, ea))

rotate_some : (n k r : ℕ) → k % 32 ≡ r → 0 < r → n < 2 ^ 32 → rotate_left w32 n k ≡ left n (32 - r) r
rotate_some n k r is some fits =
    let below : r < 32 = omega arith in
    let e : (32 - r) % 32 ≡ 32 - r = omega arith in
    rw (is, e) (rotation n (32 - r) r (omega arith) fits)

rotate_none : (n k : ℕ) → k % 32 ≡ 0 → n < 2 ^ 32 → rotate_left w32 n k ≡ n
rotate_none n k is fits =
    let whole : n * 1 % 2 ^ 32 ≡ n = omega arith in
    let same : n / 1 ≡ n = omega arith in
    rw (is, whole, same) (or_self n)

left_round : (n : ℕ) → left n 0 32 ≡ n
left_round n = omega arith

pub rotate-lt : (n k : ℕ) → n < 2 ^ 32 → rotate_left w32 n k < 2 ^ 32
rotate-lt n k fits =
    let at : ℕ = (32 - k % 32) % 32 in
    let low : n * 2 ^ (k % 32) % 2 ^ 32 < 2 ^ 32 = mod-lt _ (pow_pos 32) in
    let high : n / 2 ^ at < 2 ^ 32 = omega (arith, shr_le n at) in
    or_lt 32 (n * 2 ^ (k % 32) % 2 ^ 32) (n / 2 ^ at) low high

pub rotate-more : (n k : ℕ) → n < 2 ^ 32 → rotate_left w32 (rotate_left w32 n k) 1 ≡ rotate_left w32 n (k + 1)
rotate-more n k fits = elim (cases_lt 0 (k % 32)) [
  | inr none ↦
      let z : k % 32 ≡ 0 = omega arith in
      let o : (k + 1) % 32 ≡ 1 = omega arith in
      rw (rotate_none n k z fits) (rotate_some n 1 1 refl (omega arith) fits ∙ sym (rotate_some n (k + 1) 1 o (omega arith) fits))
  | inl some ↦
      let inner = rotate_some n k (k % 32) refl some fits in
      let outer = rotate_some (rotate_left w32 n k) 1 1 refl (omega arith) (rotate-lt n k fits) in
      let m : ℕ = 31 - k % 32 in
      let j : 32 - k % 32 ≡ 1 + m = omega arith in
      let one : left (left n (1 + m) (k % 32)) 31 1 ≡ left n m (k % 32 + 1) = left-left n m (k % 32) (omega arith) fits in
      let to : rotate_left w32 (rotate_left w32 n k) 1 ≡ left n m (k % 32 + 1) =
      outer ∙ ap (λ (x : ℕ). left x 31 1) (inner ∙ ap (λ (i : ℕ). left n i (k % 32)) j) ∙ one in
      elim (cases_lt (k % 32) 31) [
        | inl below ↦
            let r : (k + 1) % 32 ≡ k % 32 + 1 = omega arith in
            let e : 32 - (k % 32 + 1) ≡ m = omega arith in
            to ∙ ap (λ (i : ℕ). left n i (k % 32 + 1)) (sym e) ∙ sym (rotate_some n (k + 1) (k % 32 + 1) r (omega arith) fits)
        | inr last ↦
            let r : (k + 1) % 32 ≡ 0 = omega arith in
            let a : m ≡ 0 = omega arith in
            let b : k % 32 + 1 ≡ 32 = omega arith in
            to ∙ ap (λ (i : ℕ). left n i (k % 32 + 1)) a ∙ ap (λ (i : ℕ). left n 0 i) b ∙ left_round n ∙ sym (rotate_none n (k + 1) r fits)
      ]
]

pub rotate-xor : (a b : ℕ) → a < 2 ^ 32 → b < 2 ^ 32 → rotate_left w32 (bit_xor a b) 1 ≡ bit_xor (rotate_left w32 a 1) (rotate_left w32 b 1)
rotate-xor a b fa fb =
    rw (rotate_some (bit_xor a b) 1 1 refl (omega arith) (xor_lt 32 a b fa fb), rotate_some a 1 1 refl (omega arith) fa, rotate_some b 1 1 refl (omega arith) fb)
    (left-xor a b 31 1 refl fa fb)

pub rotate_zero : (n : ℕ) → n < 2 ^ 32 → rotate_left w32 n 0 ≡ n
rotate_zero n fits = rotate_none n 0 refl fits
